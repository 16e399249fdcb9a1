-- Changes of a directory's names.
pub mod Rows
pub mod Directories
pub mod Files
pub mod Writes
pub mod Scan
pub mod Finding
pub mod Standing
pub mod Places
pub mod First
pub mod Names
pub mod Removal
pub use Rattle.file.specs.Reading

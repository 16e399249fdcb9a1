pub mod Answers
pub mod Calls
pub mod Serving
pub use Rattle.modeldisk.specs.Drivers

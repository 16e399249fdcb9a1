pub mod Fields
pub mod Parts
pub mod Readers
pub mod Puts

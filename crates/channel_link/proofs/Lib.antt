pub mod Lines
pub mod Receives

pub mod Flushing
pub mod Ways

pub mod Parsed
pub mod Written

pub mod Steps
pub mod Inline

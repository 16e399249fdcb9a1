pub mod Numbers
pub mod Refusals
pub mod Talks
pub mod Plain
pub mod Hearing
pub mod Flags
pub mod Changes

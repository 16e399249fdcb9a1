pub mod Called
pub mod Behind
pub mod Kept
pub mod FilePuts
pub mod Ending

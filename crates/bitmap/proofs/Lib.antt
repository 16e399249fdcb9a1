pub mod Counting
mod Words
pub mod Maps
pub mod Blocks

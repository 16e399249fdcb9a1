pub mod Searching
pub mod Going
pub mod Parts
pub mod Steps
pub mod Pieces
pub mod Places
pub mod Waiting
pub mod Partway

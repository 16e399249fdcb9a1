-- Reading a range of a volume through a link, and reading pieces of a volume back.
pub mod Sought
pub mod Reading
pub mod Pieces
pub mod Places
pub mod ReadBack

pub mod Frames
pub mod Sparse

pub mod Bits
pub mod Fresh
pub mod Made
pub mod OfBytes
pub mod Owned
pub mod Parts
pub mod Widths

pub mod Parts
pub mod Lines
pub mod HexDigits
pub mod Kept
pub mod Told

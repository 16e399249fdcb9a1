pub mod Image
pub mod Made
pub mod Owned
pub mod Sizes

-- The inode table of a volume.
pub mod Bytes
pub mod Laws
pub mod Table

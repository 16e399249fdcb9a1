-- Blocks that may be cut off, and how calls on them are stated.
-- Blocks in memory.
pub mod World
pub mod Rows
pub mod Volume
pub mod Regions
pub mod Halts
pub mod Laws
pub mod Memory
pub mod Lawful

pub mod Marking
pub mod Taking
pub mod UnitBytes

pub mod Confined
pub mod Editions
pub mod Marking

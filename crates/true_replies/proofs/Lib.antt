pub mod Since
pub mod Places
pub mod Delivering
pub mod Stepping
pub mod Others
pub mod Keeps
pub mod Between

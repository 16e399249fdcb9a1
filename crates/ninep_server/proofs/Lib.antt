pub mod Turns
pub mod Following
pub mod Bounds
pub mod ChangeCalls
pub mod Exchanged

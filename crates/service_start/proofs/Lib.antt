pub mod Mounts
pub mod Frames
pub mod Runs
pub mod Starts
pub mod Servable

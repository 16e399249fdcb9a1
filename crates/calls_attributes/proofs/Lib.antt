pub mod Made
pub mod Exits
pub mod Looks
mod Room
pub mod OpenFiles
pub mod Volumes
pub mod Effects
pub mod Naming
pub mod Calls
mod ReadlinkCall

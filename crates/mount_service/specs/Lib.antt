pub mod Mortal
pub mod Killed
pub mod Spoken
pub mod Left
pub mod Mounted
pub mod Ending

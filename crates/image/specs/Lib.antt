-- What the bytes of an image say of its volume.
-- The passes over zones.
pub mod Contents
pub mod Entry
pub mod Least
pub mod Entered
pub mod Counts
pub mod Spare
pub mod Targets

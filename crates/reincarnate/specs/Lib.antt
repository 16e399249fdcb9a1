-- When a driver is replaced.
-- The reincarnation server against the restart policy.
pub mod Policy
pub mod Faults
pub mod Watch
pub mod Laws
pub mod Known
pub mod Supply
pub mod Runs
pub mod Follows

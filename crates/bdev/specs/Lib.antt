pub mod DriverState
pub mod Failing
pub mod Promises
pub mod Stepping

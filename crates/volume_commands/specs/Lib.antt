pub mod Making
pub mod Verifying
pub mod Handing

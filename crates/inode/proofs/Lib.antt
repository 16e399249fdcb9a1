pub mod Root
pub mod RoundTrip
pub mod Stat
pub mod Saved

pub mod Leaving
pub mod Trees
pub mod Heads
pub mod Remaining
pub mod Placing
pub mod Held
pub mod Verdicts
pub mod Releasing

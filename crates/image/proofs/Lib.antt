pub mod Places
pub mod Texts
pub mod Leasts
pub mod Contents
pub mod Sweep
pub mod Steps
pub mod Counting
pub mod Spares

-- Small lemmas that several crates use.
pub mod Bools
pub mod Numbers
pub mod Lists
pub mod Options
pub mod Maps

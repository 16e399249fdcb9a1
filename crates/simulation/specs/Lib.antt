-- What the files of a run say, and what is said of a run.
pub mod Inputs
pub mod Shown
pub mod Simulated

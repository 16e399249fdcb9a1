pub mod Confining
pub mod Editions
pub mod Marking
pub mod Sequences

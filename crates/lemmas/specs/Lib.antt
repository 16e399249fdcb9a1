-- Sums, counts and maps over numbers, which several crates' definitions use.
pub mod Sums

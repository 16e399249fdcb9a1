-- The check of a volume.
pub mod Form
pub mod Nodes
pub mod Entries
pub mod Widened
pub mod Findings
pub mod Verdict
pub mod Named
pub mod Reached
pub mod Parts
pub mod Shown

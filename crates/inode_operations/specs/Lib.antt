-- Steps of client calls that change one node of a volume.
-- Laws of client calls that go by steps.
-- New nodes.
-- The steps of a rename.
pub mod Steps
pub mod Stands
pub mod Naming
pub mod Ending
pub mod NewNodes
pub mod Leads
pub mod Moves
pub mod Whole
pub mod Replaced
pub mod Asking
pub mod Sizes

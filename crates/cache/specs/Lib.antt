-- Slots that hold blocks.
-- Requests for blocks, and what becomes of them.
-- Frames of a volume's blocks.
pub mod Slots
pub mod Index
pub mod Edits
pub mod Uses
pub mod Winners
pub mod Order
pub mod Growing
pub mod Refusals
pub mod Settling
pub mod Runs
pub mod Frames
pub mod Calls
pub mod Takes
pub mod Looking
pub mod Fetches
pub mod Laws

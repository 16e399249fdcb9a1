-- Pending requests in a fixed order, and the numbers of refusals.
-- Pending requests, and what a message does to them.
-- Links, and what transfers do over them.
-- A link that answers from a list: what it was told, and that its history grows.
pub mod BeginRefusals
pub mod Queue
pub mod Entries
pub mod Moves
pub mod Agrees
pub mod Hears
pub mod Answers
pub mod Closing
pub mod Refusals
pub mod Room
pub mod Posts
pub mod Calls
pub mod Transfers
pub mod Rules
pub mod Settlements
pub mod Notes
pub mod Grows

-- The record of a file server, and what happens at its link.
-- When the record of a file server is legal, what the server would read back, and what its calls and sessions keep.
pub mod Marks
pub mod Open
pub mod Disk
pub mod Opening
pub mod Area
pub mod Told
pub mod Acts
pub mod Laws
pub mod Legal
pub mod View
pub mod Settled
pub mod Flushes
pub mod ServerCall
pub mod Mount
pub mod Unmount
pub mod Session
pub mod Lives
pub mod LegalLaws

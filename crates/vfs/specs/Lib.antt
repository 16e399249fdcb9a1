-- A server over the frames of a cache.
-- How a server over the frames of a cache answers a call.
-- A file server over the frames of a cache.
pub mod Serving
pub mod Outcomes
pub mod UnmountingLaws
pub mod Laws
pub mod Server
pub mod OverLink
pub mod LineLaws
pub mod Unmounting
pub mod Back

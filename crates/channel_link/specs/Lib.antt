-- The lines between the threads of a service.
-- A link over channels.
pub mod Asked
pub mod News
pub mod Received

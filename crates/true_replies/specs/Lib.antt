pub mod Posted
pub mod State
pub mod Events

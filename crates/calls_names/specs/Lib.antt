-- What the calls do that make a node.
-- What open does.
-- Client calls that take a name away.
-- The call that gives a file a name more.
pub mod Vacant
pub mod Stopping
pub mod Making
pub mod Asking
pub mod Opening
pub mod Names
pub mod Linking

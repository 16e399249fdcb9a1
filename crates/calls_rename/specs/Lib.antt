-- What renames ask of their paths, and what bars a move.
-- Renames: what their moves need of the tree, room for them, and what they make.
-- Directories below others.
-- Files without holes.
pub mod Asked
pub mod Barred
pub mod MoveAsked
pub mod MoveLaws
pub mod MoveZones
pub mod Elsewhere
pub mod Laws
pub mod Carrying
pub mod Within
pub mod Sizes

-- What the bodies of client calls do.
-- What the paths of calls on one node lead to.
pub mod Does
pub mod Found
pub mod Named

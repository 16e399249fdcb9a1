-- Reading a volume through a link, and mounting it.
-- How a file server over the frames of a cache is opened and mounted.
pub mod StartupRefusals
pub mod Starting
pub mod Whole
pub mod Refusals
pub mod Mounts
pub mod Checked
pub mod Laws
pub mod Opening
pub mod Mounted
pub use Rattle.vfs.specs.OverLink
pub use Rattle.vfs.specs.declared.server.Server

-- Writing back what was changed.
pub mod Flushing

pub mod Notes
pub mod Image
mod Standing

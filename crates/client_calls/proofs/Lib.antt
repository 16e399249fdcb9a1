pub mod Effects
pub mod Looking

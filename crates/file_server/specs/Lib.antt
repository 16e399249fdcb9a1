pub mod Over
pub mod Laws
pub mod Leaving
pub mod Back

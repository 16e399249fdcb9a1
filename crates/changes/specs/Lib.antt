pub mod Units
pub mod Laws

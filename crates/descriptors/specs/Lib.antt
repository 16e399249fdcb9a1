pub mod Files
pub mod Keys
pub mod Made
pub mod Table
pub mod Laws

pub mod Messages
pub mod Answered
pub mod Stopped
pub mod Exchanges

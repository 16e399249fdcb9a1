pub mod Fields
pub mod Parts
pub mod Requests
pub mod Readers
pub mod Reading
pub mod Replies
pub mod Puts

pub mod Requests
pub mod Reading
pub mod Replies

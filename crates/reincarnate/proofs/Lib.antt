mod PolicyRows
pub mod WatchLaws
pub mod PulseLaws
mod Rows
pub mod FollowLaws

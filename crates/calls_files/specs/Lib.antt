-- What the calls that read and change the bytes of files do.
-- What readdir takes from a directory, and when it is refused.
pub mod Reading
pub mod Seeking
pub mod Dated
pub mod Writing
pub mod Pairs
pub mod Numbers
pub mod Refusals
pub mod Closing

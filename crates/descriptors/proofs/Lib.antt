pub mod Keys
pub mod Searches
pub mod Tables
pub mod Made
pub mod Kept
pub mod Calls
pub mod TreeCalls

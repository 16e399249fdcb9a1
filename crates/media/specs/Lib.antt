pub mod Contents
pub mod Answers
pub mod Laws
pub mod Entries
pub mod Table
pub mod Refusals
pub mod Places

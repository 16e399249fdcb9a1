pub mod Tables
pub mod Known
pub mod Names
pub mod Changes
pub mod Handles
pub mod Laws
pub mod Files

-- Files without a name that are given back.
pub mod Nameless
pub mod Giving
pub mod Place
pub mod Released
pub mod Telling

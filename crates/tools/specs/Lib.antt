-- Scripts played on a service, and what is printed of them.
pub mod Played
pub mod Status
pub mod Refusals
pub mod Made
pub mod Turns
pub mod Admitted
pub mod Vouched
pub mod Served

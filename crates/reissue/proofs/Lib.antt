mod Places
pub mod Finding
pub mod Maps
pub mod Tickets
pub mod Writes
pub mod Joined
pub mod Left
pub mod Answering
mod Closing
pub mod Settling
mod Steps
pub mod Inside
mod Messages
pub mod Taking
mod Order
mod PostRules
pub mod TableRules
mod StepRules
mod CallRules
pub mod Joining
pub mod Reading
mod Posting
pub mod NotesLaws

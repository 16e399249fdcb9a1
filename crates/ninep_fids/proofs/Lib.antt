pub mod PathLaws
pub mod FidLaws
pub mod SendLaws
pub mod Tables
pub mod EntryLaws

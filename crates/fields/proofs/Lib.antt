pub mod FieldLaws
mod NameLaws
pub mod ReaderLaws
pub mod WritingLaws

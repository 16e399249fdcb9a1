pub mod FieldLaws
mod ReaderLaws
mod RequestLaws
pub mod TextLaws
pub mod WritingLaws

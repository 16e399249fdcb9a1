pub mod ChunkLaws
pub mod OrderLaws
pub mod PromiseLaws
pub mod MoverLaws
pub mod SweepLaws
pub mod FilterLaws
mod Rows
pub mod FailLaws
pub mod FaultLaws
pub mod HandedLaws
pub mod Tables

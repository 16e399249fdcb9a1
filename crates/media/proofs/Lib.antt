pub mod SectorLaws
pub mod WrittenLaws
pub mod CallLaws
mod Rows
pub mod TableLaws
pub mod Volumes
mod PartitionRows

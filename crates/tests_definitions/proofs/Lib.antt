pub mod SmallTrees
mod PathRows
mod StartRows
mod OpenRows
mod ByteRows
mod NodeRows
mod SymlinkRows
pub mod TriplePage
mod ZoneRows
mod BuiltRows
mod LinkRows
mod DirectoryRows
mod RenameRows
pub mod SmallVolumes
mod LayoutRows
mod ReadRows
mod FreshRows
mod RootVerdictRows
mod TreeVerdictRows
mod SymlinkVerdictRows

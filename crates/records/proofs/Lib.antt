pub mod OpenRequests
pub mod Rising
pub mod Unsure
pub mod Sectors
pub mod Growing
pub mod FirstIssue
pub mod Changes
pub mod ActLaws
pub mod Inside
pub mod Rows
mod DiskRows
mod ActRows
mod InsideRows
pub mod Legality
mod Looking
pub mod Settling
pub mod Quiet
pub mod Sessions
pub mod Living
pub mod LegalRows
mod SettledRows
mod ViewRows
mod SessionRows
mod ServerRows
mod ServerRight
mod FlushRows
mod MountRows

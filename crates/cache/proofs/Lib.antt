pub mod Held
mod Entries
mod Halves
pub mod Edits
pub mod Staying
pub mod Filling
pub mod Issuing
mod Order
mod TournamentLaws
mod Turns
mod Choosing
mod Making
mod Growing
mod Indexed
mod Settled
mod Open
mod Copying
pub mod Begun
pub mod Sizes
pub mod Tied
pub mod Inside
pub mod Agreeing
pub mod Overtaking
pub mod Handing
pub mod Looking
pub mod Runs
mod Taking
mod Silent
pub mod Beginning
pub mod Placing
mod Fetching
pub mod Flushes
pub mod ReadingBack
pub mod Leading

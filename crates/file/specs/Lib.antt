-- What reading files means, writing to one page, and setting sizes and times.
-- What writing files means.
-- How many zones a write takes, and whether there are zones enough for it.
pub mod Reading
pub mod Writing
pub mod PageChanges
pub mod Changing
pub mod Laws
pub mod Need
pub mod Room
pub mod RoomLaws
pub use Rattle.zone.specs.ZoneSteps

pub mod Small
pub mod Making
pub mod Drivers
pub mod Reading
pub mod Beginning
pub mod DeathRow
pub mod Only
pub mod HungRow
pub mod GivenUpRow
pub mod CutRow
pub mod RefusedRow
pub mod ReadRow
pub mod LateRow
pub mod Whole
pub mod Determined
pub mod Telling
pub mod WrongEvents
pub mod Stepping
pub mod WrongSteps
mod WrongAnswers
mod WrongTimes
mod WrongEnds
mod WrongRuns
mod LeftOpen
mod HeldRows
mod FirstEvents
mod WithinRow
mod FrameRows

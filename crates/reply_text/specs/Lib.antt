-- How replies are shown.
pub mod Text
pub mod OutcomeList
pub mod Told
pub mod Kept
pub mod Answers
pub mod TranscriptText

-- What a run came to.
pub mod Leaves
pub mod Shown
pub mod ShownTranscript

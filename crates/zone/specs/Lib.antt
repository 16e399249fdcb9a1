-- Where the pages of files lie.
-- What the calls on the zones of files do.
-- What it means that a file's pages are let go.
pub mod ZoneSteps
pub mod Raw
pub mod Missing
pub mod Composite
pub mod Room
pub mod Chunks
pub mod Inodes
pub mod PlaceParts
pub mod Words
pub mod Parts
pub mod Steps
pub mod Pages
pub mod Files
pub mod Slots
pub mod CutFiles

mod Meeting
mod Owning
mod Speaking
mod Leaving
mod Ends
mod Kept

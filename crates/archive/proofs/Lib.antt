mod Answering
mod Keeping
mod Putting
mod Placing

mod Calls
mod Putting
mod Bytes
mod Comparing
mod Lying

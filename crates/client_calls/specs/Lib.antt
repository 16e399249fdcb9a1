-- What a client call does on a volume.
pub mod Calls

-- The maps of a volume, as sets of numbers.
pub mod Numbers
pub mod Maps
pub mod Laws
pub mod Words

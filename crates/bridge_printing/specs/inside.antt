-- What the calls tell one another.
pub mod Arguments
pub mod Segments

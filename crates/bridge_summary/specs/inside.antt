-- What the calls tell one another.
pub mod Counted

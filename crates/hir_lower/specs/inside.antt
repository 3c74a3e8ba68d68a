-- What the calls tell one another.
pub mod Telling
pub mod Parts
pub mod Contexts

-- What the calls tell one another.
pub mod Printed
pub mod Walked

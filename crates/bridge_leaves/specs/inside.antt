-- What the calls tell one another.
pub mod Counting
pub mod Totals

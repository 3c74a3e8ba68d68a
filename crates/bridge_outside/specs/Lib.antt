pub mod Outside
pub mod Printing
pub mod Sinks
pub mod Sources
pub mod Whole

pub mod Printing
pub mod inside

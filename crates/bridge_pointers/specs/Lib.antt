pub mod Pointers
pub mod inside

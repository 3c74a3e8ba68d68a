pub mod Primitives
pub mod Owners
pub mod Conversions

pub mod Receivers
pub mod Operands
pub mod Returns
pub mod Partial
pub mod Support
pub mod Told
pub mod Repeated

pub mod Attrs
pub mod Docs
pub mod Lifetimes
pub mod Types

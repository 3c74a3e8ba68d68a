pub mod Lifetimes
pub mod Names

pub mod Names
pub mod Declared

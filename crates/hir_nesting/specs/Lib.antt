pub mod Structs
pub mod Faults

pub mod NumberedSkeletons
pub mod NamedLifetimes
pub mod Knowing
pub mod Inputs
pub mod Declared
pub mod Readings

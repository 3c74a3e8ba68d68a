pub mod Listing
pub mod Fitness
pub mod Faults
pub mod Lookups
pub mod Iterating
pub mod inside

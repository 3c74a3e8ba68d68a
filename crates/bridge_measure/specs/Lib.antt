pub mod Measured
pub mod inside

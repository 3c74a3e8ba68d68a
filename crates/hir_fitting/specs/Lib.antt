pub mod Census
pub mod Fitting
pub mod Parts
pub mod Answering
pub mod inside

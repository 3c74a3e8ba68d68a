pub mod Filling
pub mod Filled
pub mod Staging

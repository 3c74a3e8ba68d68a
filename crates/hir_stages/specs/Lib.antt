pub mod Filling
pub mod Numbering
pub mod Given

pub mod Rows
pub mod SearchState
pub mod SearchSteps
pub mod Components

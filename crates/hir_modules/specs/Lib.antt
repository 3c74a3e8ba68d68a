pub mod ModuleMarks
pub mod Holding
pub mod inside

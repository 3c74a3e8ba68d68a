pub mod Errors
pub mod Stages
pub mod Lowered
pub mod inside

pub mod Threads
pub mod Parts
pub mod Runs
pub mod Scopes

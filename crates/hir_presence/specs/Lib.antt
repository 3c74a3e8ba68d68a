pub mod Stepping
pub mod Presence

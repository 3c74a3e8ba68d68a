pub mod Mentions
pub mod Seen
pub mod Types
pub mod Callbacks
pub mod Definitions
pub mod Containing

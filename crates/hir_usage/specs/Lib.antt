pub mod Uses
pub mod Seen
pub mod Types
pub mod Returns
pub mod Callbacks
pub mod Definitions
pub mod Tables

pub mod Rooms
pub mod Sources
pub mod Standing

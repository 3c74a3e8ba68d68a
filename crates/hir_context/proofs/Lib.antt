pub mod Naming
pub mod Parting
pub mod Telling
pub mod Places
pub mod Types

pub mod Anywhere
pub mod Deciding
pub mod Telling

pub mod Broken
pub mod Answers
pub mod inside

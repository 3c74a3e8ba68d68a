pub mod Tests
pub mod Finding
pub mod Growing
pub mod Chaining
pub mod Gathering
pub mod Meaning
pub mod Closing
pub mod Ascending

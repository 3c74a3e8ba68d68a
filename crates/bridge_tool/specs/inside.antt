pub mod Answering
pub mod Within

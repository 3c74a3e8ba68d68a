pub mod Gathering
pub mod Heads
pub mod Kinds
pub mod Numbering
pub mod Pairs

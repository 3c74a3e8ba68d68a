pub mod Edges
pub mod Answering
pub mod Keys
pub mod Slices
pub mod Visitors
pub mod inside

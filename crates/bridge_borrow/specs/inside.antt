pub mod Edges
pub mod Returned

pub mod LinkLines
pub mod inside

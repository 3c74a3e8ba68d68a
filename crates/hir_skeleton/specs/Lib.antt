pub mod Skeletons
pub mod Leaves
pub mod Edges
pub mod Lowered
pub mod Inputs
pub mod NamedLeaves

pub mod NamedLeaves
pub mod Calls
pub mod VisitedLeaves
pub mod inside

pub mod Stores
pub mod UnmarkedLemmas

pub mod FitLemmas
pub mod LifetimeLemmas
pub mod ListLemmas
pub mod NameLemmas
pub mod PathLemmas

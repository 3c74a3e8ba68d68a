pub mod BreachLemmas
pub mod PathLemmas
pub mod StageLemmas

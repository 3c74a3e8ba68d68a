pub mod MadeLemmas
pub mod StageLemmas
pub mod FormLemmas
pub mod WriterLemmas
pub mod Outcomes
pub mod DisabledLemmas
pub mod SpecialLemmas

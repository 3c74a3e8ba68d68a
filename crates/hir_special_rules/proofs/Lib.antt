pub mod SpecialLemmas

pub mod HoldLemmas
pub mod MethodLemmas
pub mod ItemLemmas
pub mod PartLemmas
pub mod FieldLemmas
pub mod LawLemmas

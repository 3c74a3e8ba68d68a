pub mod BreachLemmas
pub mod MethodNames
pub mod ItemNames
pub mod FieldNames
pub mod PathLemmas
pub mod CallableLemmas
pub mod ContextLemmas

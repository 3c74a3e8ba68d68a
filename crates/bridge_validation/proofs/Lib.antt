pub mod ContextLemmas
pub mod WalkLemmas

pub mod CatalogLemmas
pub mod LawLemmas
pub mod NumberLemmas
pub mod WholeLemmas

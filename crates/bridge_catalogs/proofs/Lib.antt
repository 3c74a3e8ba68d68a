pub mod OnceLemmas
pub mod OrderLemmas
pub mod CatalogLemmas

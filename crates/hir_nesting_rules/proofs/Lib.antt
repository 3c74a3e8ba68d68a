mod ListLemmas
mod ChainLemmas
mod HeldIds
mod FilledLemmas
mod ContainedLemmas
mod FieldLemmas
mod CatalogLemmas
mod PlaceLemmas
mod GraphLemmas
mod ReportLemmas
pub mod NestingLemmas

pub mod ArityLemmas
pub mod BelowLemmas
pub mod GenericLemmas
pub mod NumberingLemmas
pub mod OccurrenceLemmas
pub mod PlaceLemmas

mod PlaceLemmas
pub mod StoreLaws

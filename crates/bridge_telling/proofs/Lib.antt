pub mod ExactLemmas
pub mod GivenLemmas
pub mod PlaceLemmas
pub mod TestLemmas

mod TextLemmas
mod WalkLemmas
mod InputLemmas
mod EdgeLemmas
pub mod PageLemmas

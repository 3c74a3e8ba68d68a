mod WalkLemmas
mod AllLemmas
mod FineLemmas

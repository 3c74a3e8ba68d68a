mod TellingLemmas
mod NestingLemmas
mod PlacingLemmas
mod MadeLemmas
mod ItemLemmas
mod UseLemmas
mod ContextLemmas
mod BrokenLemmas

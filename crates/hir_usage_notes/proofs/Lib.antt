mod NotingLemmas
mod UsedLemmas

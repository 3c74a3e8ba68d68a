mod SumLemmas
mod ListedLemmas

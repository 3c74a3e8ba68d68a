pub mod IdentLemmas
pub mod NameIndexLemmas
pub mod RenameLemmas
pub mod TableLemmas

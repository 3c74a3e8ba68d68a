pub mod SameLemmas
pub mod AnswerLemmas

pub mod EarlierLemmas
pub mod MarkLemmas

pub mod CharLemmas
pub mod ListLemmas
pub mod forms

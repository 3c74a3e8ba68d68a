mod DigitLemmas
pub mod DeclaredLemmas
pub mod DocsLemmas
pub mod HeadlineLemmas
pub mod RunLemmas

-- What the lemmas tell one another.
pub mod Given

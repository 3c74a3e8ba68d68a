pub mod Elision
pub mod Generics
pub mod Numbering
pub mod Occurrences
pub mod Phases
pub mod Signature
pub mod inside

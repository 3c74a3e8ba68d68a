pub mod Counting
pub mod Arguments
pub mod rules
pub mod MarkBreaks
pub mod ContextBreaks

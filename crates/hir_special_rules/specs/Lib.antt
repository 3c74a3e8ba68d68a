pub mod rules
pub mod SpecialBreaks

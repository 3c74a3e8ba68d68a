pub mod There
pub mod Listed
pub mod Gathered

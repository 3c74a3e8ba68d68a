pub mod Reaching
pub mod Surveying
pub mod Totals
pub mod inside

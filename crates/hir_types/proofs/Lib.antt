pub mod Listing
pub mod Folding

pub mod Inquiry
pub mod Explained
pub mod Lines
pub mod inside

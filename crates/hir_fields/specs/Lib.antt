pub mod Heads
pub mod Variants
pub mod Told
pub mod Safety
pub mod Types
pub mod Fields
pub mod inside

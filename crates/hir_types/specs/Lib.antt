pub mod Paths
pub mod Slices
pub mod Types
pub mod SelfTypes
pub mod Callbacks
pub mod Returns
pub mod Named
pub mod inside

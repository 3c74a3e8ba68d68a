pub mod rules
pub mod LeftOut
pub mod Paths
pub mod Types
pub mod Heads
pub mod Callables
pub mod Items
pub mod Broken

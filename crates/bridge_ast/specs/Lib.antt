pub mod AliasCount
pub mod Bounds
pub mod EnvFaults
pub mod Each
pub mod Paths
pub mod Sound
pub mod Types
pub mod inside

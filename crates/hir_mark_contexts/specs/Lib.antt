pub mod Contexts
pub mod Sets
pub mod Told

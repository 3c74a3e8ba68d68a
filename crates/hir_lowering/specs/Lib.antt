pub mod Interface
pub mod Kinds
pub mod Placing
pub mod Lowered
pub mod Walks
pub mod Nesting
pub mod inside

pub mod Shapes
pub mod Table

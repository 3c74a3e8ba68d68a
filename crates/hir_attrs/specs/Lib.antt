pub mod Attrs
pub mod Includes
pub mod Marks
pub mod Reading
pub mod Special
pub mod Values
pub mod inside

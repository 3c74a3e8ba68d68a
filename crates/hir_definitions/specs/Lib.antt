pub mod Receivers
pub mod SpecialMethods
pub mod TypeDefs
pub mod Usage

pub mod Agree
pub mod Inputs
pub mod ModulePlaces
pub mod Parents
pub mod TruePlaces
pub mod forms
pub mod inside

pub mod Backend
pub mod Conditions
pub mod Known
pub mod Support
pub mod Validator
pub mod inside

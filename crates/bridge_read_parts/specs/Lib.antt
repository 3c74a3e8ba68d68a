pub mod Taking
pub mod forms
pub mod inside

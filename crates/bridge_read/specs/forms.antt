pub mod Inputs
pub mod Items
pub mod Methods
pub mod Modules
pub mod Settings

pub mod Defined
pub mod Linking

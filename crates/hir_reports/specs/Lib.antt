pub mod Places
pub mod Rules
pub mod Store
pub mod Texts
pub mod inside

pub mod Ident
pub mod NameIndex
pub mod Rename
pub mod inside

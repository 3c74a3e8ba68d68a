pub mod Reported
pub mod Joining
pub mod Titles
pub mod OpaqueParts
pub mod EnumParts
pub mod StructParts

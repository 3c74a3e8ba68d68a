pub mod InputFits
pub mod Places
pub mod Findings
pub mod Carried
pub mod TypeParts
pub mod Walks
pub mod Meeting

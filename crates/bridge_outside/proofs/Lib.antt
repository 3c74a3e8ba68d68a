pub mod JoinedLists
pub mod PrintingLaws
pub mod ReadSoFar

pub mod Candidates
pub mod Rooms
pub mod Pushing
pub mod Starting
pub mod Telling
pub mod Searching

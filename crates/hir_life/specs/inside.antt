pub mod Firsts
pub mod Reaching
pub mod Queue
pub mod Walking
pub mod Visited

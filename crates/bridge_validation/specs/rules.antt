pub mod TooManyLeaves
pub mod ElidedReturn

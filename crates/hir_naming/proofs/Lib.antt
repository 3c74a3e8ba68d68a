pub mod ModulePathLemmas
pub mod FollowingLemmas
pub mod NamingLemmas

pub mod PlaceLemmas
pub mod FindingLemmas
pub mod CarriedLemmas
pub mod BareLemmas
pub mod FittingLemmas
pub mod WalkLemmas
pub mod NamingLemmas
pub mod CallLemmas

pub mod SetLemmas
pub mod WalkLemmas
pub mod ExactlyLemmas
pub mod BoundLemmas
pub mod CallbackLemmas
mod DirectLemmas
pub mod VisitedLemmas
pub mod ReceiverLemmas
pub mod TypeLemmas
pub mod SignatureLemmas
pub mod BreakLemmas

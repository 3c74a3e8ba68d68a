pub mod Refusals
pub mod Acceptance
pub mod Placing
pub mod Contexts
pub mod Answers
pub mod inside

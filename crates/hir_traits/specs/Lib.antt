pub mod TraitStages
pub mod TraitTypes
pub mod TraitMethods
pub mod Traits
pub mod inside

pub mod Names
pub mod NumberedFits
pub mod Lowered
pub mod Naming
pub mod Uses
pub mod DeclaredCensus
pub mod DeclaredDefinitions

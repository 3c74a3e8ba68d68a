pub mod Holding
pub mod Chains
pub mod LoweredContainment
pub mod NestingBreaks
pub mod rules

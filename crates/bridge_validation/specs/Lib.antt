pub mod rules
pub mod Told
pub mod LoweredContextBreaks

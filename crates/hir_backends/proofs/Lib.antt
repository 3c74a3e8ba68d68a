pub mod Flags
mod KnownLemmas

pub mod PointerLemmas

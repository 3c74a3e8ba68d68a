pub mod CellBreaks
pub mod CellLemmas
pub mod FaultLemmas
pub mod RowLemmas
pub mod RuleLemmas
pub mod TellsLemmas
pub mod TypeLemmas
pub mod WayLemmas

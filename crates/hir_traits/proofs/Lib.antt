pub mod JudgeLemmas
pub mod StageLemmas
pub mod PartLemmas
pub mod WalkLemmas
pub mod ReportLemmas
pub mod SoundLemmas
pub mod FormLemmas
pub mod KeptLemmas

pub mod RowLemmas
pub mod CountLemmas
pub mod ChainLemmas
pub mod ReportLemmas

mod ArgumentLemmas
pub mod SegmentLemmas
pub mod ReportLemmas

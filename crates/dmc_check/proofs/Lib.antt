pub mod VerdictLemmas
pub mod TextEnds
pub mod NoteLemmas
pub mod SegmentLemmas

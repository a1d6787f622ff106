pub mod LaterLemmas
pub mod PlaceLemmas
pub mod SegmentLemmas

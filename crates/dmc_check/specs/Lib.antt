-- A replayer of segments.
pub mod Replaying
-- Whether recorded events replay.
pub mod Verdicts
-- Whole event texts: what their lines record, and what is written about it.
pub mod EventTexts
-- The texts of events and of segments, and what they add to what an event text records.
pub mod SegmentTexts
-- What only contracts of private functions and proofs cite.
pub mod internal

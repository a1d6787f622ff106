-- Reductions that are deferred: an amount was taken off each queued R, but not yet off the stored one.
pub mod Deferred
-- What becomes of each request of a queue of which some are taken back.
pub mod Passed

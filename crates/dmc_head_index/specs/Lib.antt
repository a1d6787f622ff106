-- The clients' first requests, as a finite map from keys, and what an index over them holds.
pub mod Heads
-- What is known of the least P.
pub mod Least
-- What only contracts of private functions and proofs cite.
pub mod internal

-- What contracts see of a roster: its clients in order of registration.
pub mod Entries
-- What only contracts of private functions and proofs cite.
pub mod internal

-- An index as a finite map: a list of what each key below its capacity holds.
pub mod Index
-- The invariant of a sorted vector of entries, and the map that it represents.
pub mod Entries
-- What only contracts of private functions and proofs cite.
pub mod internal

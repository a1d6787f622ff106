-- How a queue's history keeps its events: each in the list of those of its form, and the places of all in order. Contracts
-- of the history cite the list of events alone.
pub mod Kept
-- A moment and a small mark in one word: the moment times the number of marks, plus the mark.
pub mod Marked
-- What contracts see of a segment of a queue's history.
pub mod Segmented
-- What only contracts of private functions and proofs cite.
pub mod internal

pub use Rattle.dmc_index.specs.Index
-- A heap of entries with the index of each key in it, and the map that it represents.
pub mod Heap
-- What an index of either form holds.
pub mod Adaptive
-- What only contracts of private functions and proofs cite.
pub mod internal

-- Entries whose ranks are mapped.
pub mod Entries
-- Entries that are moved within a vector.
pub mod Sliding

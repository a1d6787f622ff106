-- A cluster before its first event.
pub mod Opening
-- The commands that are events of a cluster as they are.
pub mod Serving
-- What the core keeps, and what is true of it.
pub mod Parts

-- The turns of a round, one by one.
pub mod Turns
-- Bounds of the counts of a simulation: a server grants at most one request a round. And that the servers differ.
pub mod Counts
-- The rows of a report: of a client, of a server that has granted nothing, and of one whose queued requests have been counted.
pub mod Rows
-- Which simulations the data of the code represents, and that its calls end as the definition does.
pub mod Simulations

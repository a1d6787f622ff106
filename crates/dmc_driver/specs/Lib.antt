-- How a run ends.
pub mod Done
-- What is promised of a run, however it ends.
pub mod Ending
-- Why the threads of a run stopped, by what the servers' histories have of them.
pub mod Stops
-- What only the proofs and the contracts of private functions speak of.
pub mod internal

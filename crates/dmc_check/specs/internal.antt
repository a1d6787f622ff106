-- The verdict on a list of events.
pub mod Verdicts
-- How far a text is checked, and what is written of it.
pub mod Checking
-- A check of an event text, line by line.
pub mod TextLines

-- Writing a report, part by part.
pub mod RunReports
-- A run and what it reports, part by part.
pub mod Reported
-- The verdict at a place.
pub mod Verdicts

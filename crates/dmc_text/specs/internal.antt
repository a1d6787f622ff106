-- A script's run, reply by reply.
pub mod Runs
-- Which fields of an event's line were read.
pub mod EventLines
-- Fractions that are read back.
pub mod RatioText
-- Parts of a line that are read back.
pub mod RoundTrip
-- Which fields of a heading were read.
pub mod Lines
-- Reading line by line.
pub mod Walks
-- The lines of a text, found one by one.
pub mod LineLaws
-- A run of a script, line by line.
pub mod ScriptLines

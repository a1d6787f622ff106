-- How a history stores its events. No public clause cites this module.
pub mod Blocks
-- What contracts see of a history.
pub mod Log

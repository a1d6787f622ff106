-- A tracker's book while it is opened.
pub mod Opening
-- How a status is read.
pub mod Status

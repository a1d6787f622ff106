-- Requests that are taken back.
pub mod TakenBack
pub mod InRange

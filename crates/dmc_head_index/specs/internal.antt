-- A rank less an amount.
pub mod Heads
-- The least of two tags, and of those of heads.
pub mod Least
-- The ready mark of one head.
pub mod Marks

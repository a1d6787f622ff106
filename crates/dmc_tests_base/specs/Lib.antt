-- Heads of tests.
pub mod Heads

-- The hz that a caller gave.
pub mod Rates

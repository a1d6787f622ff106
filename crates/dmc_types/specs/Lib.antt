-- A clock that counts nanoseconds, and moments in ticks.
pub mod Clock
-- The limits, by name.
pub mod Limits
-- Rates that divide hz, near a given rate.
pub mod Rates
-- What contracts see of the checked values.
pub mod Values

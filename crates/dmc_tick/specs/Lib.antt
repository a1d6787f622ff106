-- The value of a tick tag, a whole number of absolute value at most 2^90, and what its operations compute.
pub mod Tick
-- A tick tag in two words: its number plus 2^90.
pub mod Words
-- Ranks of tick tags as numbers.
pub mod Packed
-- The operations of tick tags are exact.
pub mod TickExact
-- Worked examples: the replies that the rules give in whole ticks, computed.
pub mod Examples

-- Cleaning: who is idle, and who is erased.
pub mod Cleaned
pub mod Aging
pub mod Aged

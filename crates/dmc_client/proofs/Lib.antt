pub mod Order
pub mod Records
mod Places
mod Unchanged
pub mod TakenBack
pub mod TakenOrder
mod Behind
pub mod Deferred
pub mod Whole

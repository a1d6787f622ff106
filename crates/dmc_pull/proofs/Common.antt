-- What the roster and the heads hold, and what the plain state has of it.
pub mod Parts
pub mod Entries
pub mod Keyed
pub mod Ordered
pub mod Firsts
pub mod Lent
pub mod Kept
pub mod Replaced
pub mod Answered
pub mod Refused
pub mod Moved
pub mod Within
pub mod Progress
pub mod FirstRequests

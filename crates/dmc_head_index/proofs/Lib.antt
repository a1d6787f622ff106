pub mod Slots
pub mod HeadsFrom
pub mod Clients
pub mod Least
pub mod Sound
mod Writes
pub mod MarkLemmas
pub mod Shift
pub mod Room

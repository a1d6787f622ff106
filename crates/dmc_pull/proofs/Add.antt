-- Adding a request.
pub mod Shifted
pub mod LeastShare
pub mod Adds
pub mod NothingOff
pub mod Arrived
pub mod InRange

-- Pulling one.
pub mod Choices
pub mod Pulls
pub mod Due
pub mod Picks
pub mod Grants
pub mod Weighed
pub mod Allowed

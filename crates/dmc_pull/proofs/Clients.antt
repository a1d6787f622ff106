-- Registering and updating clients.
pub mod Registering
pub mod Updating

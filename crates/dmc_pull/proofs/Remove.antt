-- Removing a client's requests.
pub mod Removing

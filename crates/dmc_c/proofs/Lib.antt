pub mod Walks
pub mod Values
pub mod Sent

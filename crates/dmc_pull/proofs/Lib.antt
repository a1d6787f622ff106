pub mod Common
pub mod Add
pub mod Pull
pub mod Clean
pub mod Remove
pub mod Cancel
pub mod Clients

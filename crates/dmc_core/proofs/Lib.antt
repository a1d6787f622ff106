mod Examples
pub mod Lists
pub mod DistinctIds
pub mod Pairs
pub mod Clients
pub mod Counts
pub mod Kept
pub mod Places
pub mod Rooms
pub mod Runs
pub mod Arrivals
pub mod Pulls
pub mod Removals
pub mod Opened
pub mod ForCallers

mod Agreed
mod GrowingLists
mod Ledger
mod Rows
mod Shared
mod Sums
mod Walks

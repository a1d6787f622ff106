-- The entries after a rule was applied to each.
pub mod Entries

mod DeskLemmas
pub mod Kept
mod Numbering
mod Registering
mod RowLemmas

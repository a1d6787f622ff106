pub mod Slots
pub mod EntryLemmas
pub mod SlidingLemmas

-- If a list stores an event.
pub mod Kept

-- Whether a pull waits.
pub mod Calls

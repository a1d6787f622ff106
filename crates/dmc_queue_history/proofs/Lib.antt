pub mod Adding
pub mod Pushes

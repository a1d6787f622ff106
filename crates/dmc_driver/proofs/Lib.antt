pub mod WalkLemmas
pub mod SettledLemmas

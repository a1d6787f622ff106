pub mod Bounds
mod CallExamples
pub mod ForCallers
pub mod LawLemmas
pub mod ListLemmas
pub mod RepresentsLemmas
pub mod Between
mod Steps

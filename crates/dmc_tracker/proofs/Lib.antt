pub mod CountLemmas
mod Examples
pub mod ForCallers
pub mod LawLemmas
pub mod ListLemmas
pub mod ServerLemmas
pub mod RepresentsLemmas
pub mod ReturnedLemmas
mod Steps

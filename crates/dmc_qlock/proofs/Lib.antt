pub mod Answering
pub mod LaterLemmas

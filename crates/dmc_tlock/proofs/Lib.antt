pub mod CarriedLemmas
pub mod ConsistentLemmas
pub mod DeskLemmas
pub mod ForCallers
pub mod LaterLemmas
pub mod OpeningLemmas
pub mod SettlingLemmas
pub mod StatusLemmas

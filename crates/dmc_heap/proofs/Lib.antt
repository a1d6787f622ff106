pub mod LinkLemmas
pub mod OrderLemmas
pub mod SlotLemmas
pub mod SoundLemmas
pub mod PackedLemmas

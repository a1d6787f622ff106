pub mod ConsistentLemmas
pub mod LockLemmas
pub mod NumbersLemmas
pub mod OpeningLemmas

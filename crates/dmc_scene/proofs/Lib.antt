pub mod CostLemmas
pub mod IgnoredLemmas
pub mod TableLemmas
pub mod TextLemmas

pub mod ClockLemmas
pub mod RateLemmas

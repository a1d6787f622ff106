-- What a caller's proof may cite: a list of calls through one more call, and what holds of each list.

-- a new tracker represents the empty list; what a tracker represents after an arrival, after a give-back, after a skip
pub use Rattle.dmc_shards.proofs.RepresentsLemmas.{RepresentsCalls-new, next_params-represents, RepresentsCalls-arrival, RepresentsCalls-give_back, RepresentsCalls-skip}
-- what was stamped to a shard, what was skipped and what is pending there; what was sent to it, what was skipped and what is pending
pub use Rattle.dmc_shards.proofs.LawLemmas.{stamped_and_pending, sent_and_pending}
-- what was given back is at most what was stamped; a list without a skip skips nothing
pub use Rattle.dmc_shards.proofs.LawLemmas.{given_back-le}
pub use Rattle.dmc_shards.proofs.ListLemmas.{skipped-none}
-- the bounds across the shards of a server, whatever was taken back, and of a client that was never cancelled
pub use Rattle.dmc_shards.proofs.Bounds.{limit_across_shards_with_cancels, reservation_across_shards_with_cancels}
pub use Rattle.dmc_shards.proofs.Bounds.{limit_across_shards, reservation_across_shards}
-- what came in between two calls that stamped
pub use Rattle.dmc_shards.proofs.Between.{between_fronts}

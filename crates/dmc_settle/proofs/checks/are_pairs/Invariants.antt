use Rattle.std.proofs.Common.{ℕ, ◌<◌, slice_index_or}
use Rattle.dmc_settle.specs.internal.Checks.{ArePairsOf}
use Rattle.dmc_settle.specs.internal.Places.{no_tracker}
use Rattle.dmc_settle.proofs.checks.are_pairs.Given as goal

abbrev pub invariant-loop-c : goal.invariant-loop-c
invariant-loop-c g l = (k : ℕ) → k < l.c → ArePairsOf k l.books (slice_index_or l.trackers k no_tracker)

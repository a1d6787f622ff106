use Rattle.std.proofs.Common.{ℕ, ◌<◌, slice_index_or}
use Rattle.dmc_settle.specs.internal.Checks.{IsPairAt}
use Rattle.dmc_settle.specs.internal.Places.{no_book}
use Rattle.dmc_settle.proofs.checks.are_pairs_of.Given as goal

abbrev pub invariant-loop-s : goal.invariant-loop-s
invariant-loop-s g l = (k : ℕ) → k < l.s → IsPairAt l.client k (slice_index_or l.books k no_book).desks l.tracker.desks

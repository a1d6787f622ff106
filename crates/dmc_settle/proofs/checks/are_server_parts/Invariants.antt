use Rattle.std.proofs.Common.{ℕ, ◌<◌, [], map, slice_index_or}
use Rattle.dmc_settle.specs.internal.Places.{no_book, pass_states}
use Rattle.dmc_settle.specs.Left.{IsServerPart}
use Rattle.dmc_settle.proofs.checks.are_server_parts.Given as goal

abbrev pub invariant-loop-s : goal.invariant-loop-s
invariant-loop-s g l = (k : ℕ) → k < l.s → IsServerPart l.scene k (slice_index_or l.books k no_book) (slice_index_or (map pass_states l.passes) k [])

use Rattle.std.proofs.Common.{◌≡◌, length}
use Rattle.dmc_index.specs.Index.{AreApart}
use Rattle.dmc_heap.specs.internal.Adaptive.{IsCopied}
use Rattle.dmc_heap.proofs.adaptive_index.heap_of.Given as goal

-- the keys before this one are copied
abbrev pub invariant-loop-key : goal.invariant-loop-key
invariant-loop-key g l = IsCopied l.list l.key l.heap × (length l.heap ≡ l.n) × AreApart g.R.Rank.cmp l.list

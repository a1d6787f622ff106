use Rattle.std.proofs.Common.{◌≢◌}
use Rattle.dmc_heap.specs.internal.Heap.{IsHole, IsMoved, IsOverChildren}
use Rattle.dmc_heap.proofs.indexed_heap.rise.Given as goal

-- the hole was moved, and what is above the entry's rank was moved below the hole
abbrev pub invariant-loop-at : goal.invariant-loop-at
invariant-loop-at g l = record {
  hole : IsHole g.R.Rank.cmp l.heap l.places l.at l.entry;
  moved : IsMoved l.fn.heap l.fn.places l.fn.at l.entry l.heap l.places l.at;
  over : l.at ≢ l.fn.at → IsOverChildren g.R.Rank.cmp l.heap l.at l.entry;
}

abbrev pub decreases-loop-at : goal.decreases-loop-at
decreases-loop-at g l = l.at

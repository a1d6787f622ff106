use Rattle.std.proofs.Common.{◌-◌, length}
use Rattle.dmc_heap.specs.internal.Heap.{IsHole, IsMoved}
use Rattle.dmc_heap.specs.declared.indexed_heap.Entry.{Entry}
use Rattle.dmc_heap.proofs.indexed_heap.descend.Given as goal

-- the hole was moved, whichever entry it is for
abbrev pub invariant-loop-at : goal.invariant-loop-at
invariant-loop-at g l = record {
  hole : (entry : Entry g.row.R.Denot) → IsHole g.R.Rank.cmp l.fn.heap l.fn.places l.fn.at entry → IsHole g.R.Rank.cmp l.heap l.places l.at entry;
  moved : (entry : Entry g.row.R.Denot) → IsHole g.R.Rank.cmp l.fn.heap l.fn.places l.fn.at entry → IsMoved l.fn.heap l.fn.places l.fn.at entry l.heap l.places l.at;
}

abbrev pub decreases-loop-at : goal.decreases-loop-at
decreases-loop-at g l = length l.initial.heap - l.at

use Rattle.dmc_heap.proofs.SoundLemmas.{none_held, IsLeast-first}
use Rattle.dmc_heap.proofs.indexed_heap.IndexedHeapOrderIndex.least.Goals as goal

pub returns-in_err-first : goal.returns-in_err-first
returns-in_err-first g c =
    let x = c.self.inside in
    let empty = rw c.deref.ensures.value at c.in_err-first.ensures.item.3 in
    rw (c.from_residual.ensures, ← c.self.view_is) (none_held g.R.Rank.cmp g.met.R.Rank.total _ x.heap.items x.places.items c.self.invariant empty)

pub returns : goal.returns
returns g c =
    let x = c.self.inside in
    let here = rw c.deref.ensures.value at c.in_ok-first.ensures.value in
    rw c.self.view_is at (IsLeast-first g.R.Rank.cmp g.met.R.Rank.total _ x.heap.items x.places.items c.self.invariant c.in_ok-first.first.now here)

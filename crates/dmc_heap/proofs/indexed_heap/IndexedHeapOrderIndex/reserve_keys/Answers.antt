use Rattle.std.proofs.Common.{◌-◌, length, arith}
use Rattle.std.proofs.lemmas.Grind.{common_steps}
use Rattle.std.proofs.lemmas.List.{take_all}
use Rattle.dmc_heap.proofs.SoundLemmas.{length-slots, heap_in_room, slots_of-more, IsSound-more}
use Rattle.dmc_heap.proofs.indexed_heap.IndexedHeapOrderIndex.reserve_keys.Goals as goal

pub returns-in_ok-resize-clause-ok : goal.returns-in_ok-resize-clause-ok
returns-in_ok-resize-clause-ok g c =
    let x = c.self.inside in
    let size = rw c.self.view_is at (length-slots g.R.Rank.cmp g.met.R.Rank.total _ x.heap.items x.places.items c.self.invariant) in
    let front = take_all c.args.n x.places.items (omega (arith, c.if-n-len.true, c.len.ensures, x.places.ok.0)) in
    let places = rw (front, x.places.ok.0) at c.in_ok-resize.ensures.items in
    rw (c.in_ok-reserve.ensures.items, places, size) (rw c.self.view_is at (slots_of-more g.R.Rank.cmp g.met.R.Rank.total _ x.heap.items x.places.items c.self.invariant (c.args.n - length x.places.items) (omega (arith, x.heap.ok.0, x.heap.ok.1, x.heap.small))))

pub invariant_of-self-in-Continue-branch-2 : goal.invariant_of-self-in-Continue-branch-2
invariant_of-self-in-Continue-branch-2 g c =
    let x = c.self.inside in
    let front = take_all c.args.n x.places.items (omega (arith, c.if-n-len.true, c.len.ensures, x.places.ok.0)) in
    let places = rw (front, x.places.ok.0) at c.in_ok-resize.ensures.items in
    let in_room = heap_in_room g.R.Rank.cmp g.met.R.Rank.total _ x.heap.items x.places.items c.self.invariant in
    rw (c.in_ok-reserve.ensures.items, places) (IsSound-more g.R.Rank.cmp g.met.R.Rank.total _ x.heap.items x.places.items c.self.invariant (c.args.n - length x.places.items) (omega (arith, x.heap.ok.0, x.heap.ok.1, x.heap.small)) _ (omega (arith, c.in_ok-reserve.ensures.ok, c.in_ok-reserve.ensures.len, c.len-then-n-len.ensures, c.len.ensures, c.if-n-len.true, x.heap.ok.0, x.places.ok.0)))

pub overflow_sub-n : goal.overflow_sub-n
overflow_sub-n g c = grind (arith, common_steps)

pub returns-in_err-reserve-clause-succeeds : goal.returns-in_err-reserve-clause-succeeds
returns-in_err-reserve-clause-succeeds g c = grind (arith, common_steps)

pub returns-in_err-resize-clause-succeeds : goal.returns-in_err-resize-clause-succeeds
returns-in_err-resize-clause-succeeds g c = grind (arith, common_steps)

pub returns-else-n-len-clause-ok : goal.returns-else-n-len-clause-ok
returns-else-n-len-clause-ok g c = grind (arith, common_steps)

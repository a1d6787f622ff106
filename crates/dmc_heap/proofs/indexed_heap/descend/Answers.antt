use Rattle.std.proofs.Common.{◌≢◌, length, refl, arith}
use Rattle.std.proofs.lemmas.Option.{slice_get_read}
use Rattle.dmc_heap.proofs.LinkLemmas.{y_in_room}
use Rattle.dmc_heap.proofs.OrderLemmas.{IsHole-down, IsMoved-more}
use Rattle.dmc_heap.proofs.indexed_heap.descend.Goals as goal

pub put-requires-clause-in_room : goal.put-requires-clause-in_room
put-requires-clause-in_room g c =
    let entry = c.requires.0 in
    let hole = c.loop-at.invariant.hole entry c.requires.1 in
    let least = c.lowest_child-child.ensures in
    let apart : c.lowest_child-child.result ≢ c.loop-at.at = λ e. omega (arith, least.positive, least.parent) in
    let here = slice_get_read c.loop-at.heap (length c.loop-at.heap) c.lowest_child-child.result c.index-heap-child.result refl least.within c.index-heap-child.is in
    y_in_room c.loop-at.heap c.loop-at.places entry c.index-heap-child.result c.loop-at.at c.lowest_child-child.result apart hole.within hole.linked here

pub loop-at-preserved : goal.loop-at-preserved
loop-at-preserved g c =
    let least = c.lowest_child-child.ensures in
    let apart : c.lowest_child-child.result ≢ c.loop-at.at = λ e. omega (arith, least.positive, least.parent) in
    let here = slice_get_read c.loop-at.heap (length c.loop-at.heap) c.lowest_child-child.result c.index-heap-child.result refl least.within c.index-heap-child.is in
    rw (c.put.ensures.heap, c.put.ensures.places) (record {
      hole = λ entry was. IsHole-down g.R.Rank.cmp g.met.R.Rank.total c.loop-at.heap c.loop-at.places c.loop-at.at entry (c.loop-at.invariant.hole entry was) c.index-heap-child.result c.lowest_child-child.result least here;
      moved = λ entry was.
          let hole = c.loop-at.invariant.hole entry was in
          IsMoved-more _ _ _ c.loop-at.heap c.loop-at.places entry c.index-heap-child.result c.loop-at.at c.lowest_child-child.result apart hole.within hole.linked here (c.loop-at.invariant.moved entry was);
    })

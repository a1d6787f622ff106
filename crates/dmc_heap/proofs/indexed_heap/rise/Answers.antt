use Rattle.std.proofs.Common.{◌≡◌, ◌≢◌, length, refl, sym, ◌∙◌, subst, arith}
use Rattle.std.proofs.lemmas.Option.{slice_get_read}
use Rattle.dmc_heap.specs.Heap.{parent_of, IsUpto}
use Rattle.dmc_heap.proofs.LinkLemmas.{y_in_room}
use Rattle.dmc_heap.proofs.OrderLemmas.{IsHole-up, IsOverChildren-up, IsMoved-more, upto_if_lt, under_read}
use Rattle.dmc_heap.proofs.indexed_heap.rise.Goals as goal

pub returns-then-not-is_below-clause-under_parent : goal.returns-then-not-is_below-clause-under_parent
returns-then-not-is_below-clause-under_parent g c =
    under_read g.R.Rank.cmp g.met.R.Rank.total c.loop-at.heap c.loop-at.at c.args.entry c.index-heap-parent.result c.is_below.result c.is_below.ensures c.if-not-is_below.true

pub returns-then-not-is_below-clause-over_children : goal.returns-then-not-is_below-clause-over_children
returns-then-not-is_below-clause-over_children g c = c.loop-at.invariant.over

pub returns-clause-over_children : goal.returns-clause-over_children
returns-clause-over_children g c = c.loop-at.invariant.over

pub put-requires-clause-in_room : goal.put-requires-clause-in_room
put-requires-clause-in_room g c =
    let hole = c.loop-at.invariant.hole in
    let above = c.index-heap-parent-in-loop-at in
    let apart : parent_of c.loop-at.at ≢ c.loop-at.at = λ e. omega arith in
    let here = slice_get_read c.loop-at.heap (length c.loop-at.heap) (parent_of c.loop-at.at) above.result refl (omega (arith, hole.within)) above.is in
    y_in_room c.loop-at.heap c.loop-at.places c.args.entry above.result c.loop-at.at (parent_of c.loop-at.at) apart hole.within hole.linked here

pub loop-at-preserved : goal.loop-at-preserved
loop-at-preserved g c =
    let hole = c.loop-at.invariant.hole in
    let compared = c.index-heap-parent in
    let above = c.index-heap-parent-in-loop-at in
    let apart : parent_of c.loop-at.at ≢ c.loop-at.at = λ e. omega arith in
    let here = slice_get_read c.loop-at.heap (length c.loop-at.heap) (parent_of c.loop-at.at) above.result refl (omega (arith, hole.within)) above.is in
    let there = slice_get_read c.loop-at.heap (length c.loop-at.heap) (parent_of c.loop-at.at) compared.result refl (omega (arith, hole.within)) compared.is in
    let same : compared.result ≡ above.result = cc in
    let lower = subst (λ e. IsUpto g.R.Rank.cmp c.args.entry e) (sym compared.is ∙ same) (upto_if_lt _ (sym c.is_below.ensures ∙ c.if-not-is_below.false)) in
    rw (c.put.ensures.heap, c.put.ensures.places) (record {
      hole = IsHole-up g.R.Rank.cmp g.met.R.Rank.total c.loop-at.heap c.loop-at.places c.loop-at.at c.args.entry hole above.result c.loop-at-test.true here;
      moved = IsMoved-more _ _ _ c.loop-at.heap c.loop-at.places c.args.entry above.result c.loop-at.at (parent_of c.loop-at.at) apart hole.within hole.linked here c.loop-at.invariant.moved;
      over = λ _. IsOverChildren-up g.R.Rank.cmp g.met.R.Rank.total c.loop-at.heap c.loop-at.places c.loop-at.at c.args.entry hole above.result c.loop-at-test.true here lower;
    })

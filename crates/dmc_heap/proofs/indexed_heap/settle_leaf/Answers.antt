use Rattle.std.proofs.Common.{arith, inl, inr}
use Rattle.std.proofs.lemmas.Bool.{cases_eq}
use Rattle.dmc_heap.specs.internal.Heap.{IsOverChildren}
use Rattle.dmc_heap.proofs.OrderLemmas.{IsSettled-fill, IsOverChildren-leaf, key_in_room}
use Rattle.dmc_heap.proofs.indexed_heap.settle_leaf.Goals as goal

pub put-requires-clause-in_room : goal.put-requires-clause-in_room
put-requires-clause-in_room g c = key_in_room g.R.Rank.cmp _ _ _ c.args.entry c.rise-place.ensures.hole

pub returns : goal.returns
returns g c =
    let up = c.rise-place.ensures in
    let over : IsOverChildren g.R.Rank.cmp c.rise-place.new.heap c.rise-place.result c.args.entry = elim (cases_eq c.rise-place.result c.args.at) [
      | inl s ↦ IsOverChildren-leaf g.R.Rank.cmp g.met.R.Rank.total _ _ _ c.args.entry up.hole (omega (arith, s, c.requires.leaf, up.moved.size))
      | inr n ↦ up.over_children n
    ] in
    rw (c.put.ensures.heap, c.put.ensures.places) (IsSettled-fill g.R.Rank.cmp g.met.R.Rank.total _ _ _ _ _ _ c.args.entry up.hole up.moved up.under_parent over)

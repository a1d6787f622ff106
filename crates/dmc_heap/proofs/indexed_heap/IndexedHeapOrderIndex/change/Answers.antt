use Rattle.std.proofs.Common.{◌≡◌, ◌++◌, Some, length, take, drop, slice_get, refl, arith}
use Rattle.std.proofs.lemmas.List.{take_at}
use Rattle.std.proofs.lemmas.Option.{slice_get_read}
use Rattle.dmc_heap.specs.internal.Heap.{IsSettled}
use Rattle.dmc_heap.proofs.SoundLemmas.{key_in_room_if_held, hole_to_change, changed}
use Rattle.dmc_heap.proofs.indexed_heap.IndexedHeapOrderIndex.change.Given.{Over}
use Rattle.dmc_heap.proofs.indexed_heap.IndexedHeapOrderIndex.change.Goals.{After-index-at, After-settle}
use Rattle.dmc_heap.proofs.indexed_heap.IndexedHeapOrderIndex.change.Goals as goal

-- ---- what the paths share

place_is : (g : Over) (c : After-index-at g) → slice_get c.self.inside.places.items c.args.key ≡ Some c.index-at.result.now
place_is g c =
    let x = c.self.inside in
    let in_room = key_in_room_if_held g.R.Rank.cmp g.met.R.Rank.total _ x.heap.items x.places.items c.self.invariant c.args.key (rw c.self.view_is c.requires.here) in
    slice_get_read x.places.items (length x.places.items) c.args.key c.index-at.result.now refl in_room c.index-at.ensures

settled : (g : Over) (c : After-settle g) → IsSettled g.R.Rank.cmp c.self.inside.heap.items c.self.inside.places.items c.index-at.result.now (record { rank = c.args.rank; key = c.args.key }) c.settle.new.heap c.settle.new.places
settled g c = rw (c.deref_mut.ensures.value, c.deref_mut-2.ensures.value) at c.settle.ensures

-- `settle` keeps both lengths, so what it lent is the whole of both
whole_heap : (g : Over) (c : After-settle g) → take c.self.inside.heap.len (c.settle.new.heap ++ drop (length c.settle.new.heap) c.self.inside.heap.items) ≡ c.settle.new.heap
whole_heap g c = take_at c.settle.new.heap (drop (length c.settle.new.heap) c.self.inside.heap.items) c.self.inside.heap.len (omega (arith, (settled g c).size, c.self.inside.heap.ok.0))

whole_places : (g : Over) (c : After-settle g) → take c.self.inside.places.len (c.settle.new.places ++ drop (length c.settle.new.places) c.self.inside.places.items) ≡ c.settle.new.places
whole_places g c = take_at c.settle.new.places (drop (length c.settle.new.places) c.self.inside.places.items) c.self.inside.places.len (omega (arith, (settled g c).room, c.self.inside.places.ok.0))

-- ---- the goals

pub index-at-requires : goal.index-at-requires
index-at-requires g c =
    let x = c.self.inside in
    omega (arith, key_in_room_if_held g.R.Rank.cmp g.met.R.Rank.total _ x.heap.items x.places.items c.self.invariant c.args.key (rw c.self.view_is c.requires.here), x.places.ok.0)

pub settle-requires : goal.settle-requires
settle-requires g c =
    let x = c.self.inside in
    rw (c.deref_mut.ensures.value, c.deref_mut-2.ensures.value)
    (hole_to_change g.R.Rank.cmp g.met.R.Rank.total _ x.heap.items x.places.items c.self.invariant c.args.key c.args.rank c.index-at.result.now (place_is g (goal.at.settle-requires g c).After-index-at) (rw c.self.view_is c.requires.here))

pub invariant_of-self : goal.invariant_of-self
invariant_of-self g c =
    let a = goal.at.invariant_of-self g c in
    let x = c.self.inside in
    rw (whole_heap g a.After-settle, whole_places g a.After-settle)
    ((changed g.R.Rank.cmp g.met.R.Rank.total _ x.heap.items x.places.items c.self.invariant c.args.key c.args.rank c.index-at.result.now
    (place_is g a.After-index-at) (rw c.self.view_is c.requires.here) (rw c.self.view_is c.requires.apart) _ _ (settled g a.After-settle)).0)

pub returns : goal.returns
returns g c =
    let a = goal.at.returns g c in
    let x = c.self.inside in
    rw (whole_heap g a.After-settle, whole_places g a.After-settle, ← c.self.view_is)
    ((changed g.R.Rank.cmp g.met.R.Rank.total _ x.heap.items x.places.items c.self.invariant c.args.key c.args.rank c.index-at.result.now
    (place_is g a.After-index-at) (rw c.self.view_is c.requires.here) (rw c.self.view_is c.requires.apart) _ _ (settled g a.After-settle)).1)

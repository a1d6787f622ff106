-- The last entry was taken off. It is the removed one, or belongs where that was.
use Rattle.std.proofs.Common.{◌≡◌, ◌∷◌, [], ◌++◌, ◌<◌, ◌≤◌, IsSome, None, Some, length, take, drop, set, slice_get, refl, sym, subst, arith}
use Rattle.std.proofs.lemmas.List.{take_at, length-set}
use Rattle.std.proofs.lemmas.Option.{slice_get_read, slice_get_within}
use Rattle.dmc_index.specs.Index.{slot_of_key}
use Rattle.dmc_heap.specs.Heap.{IsSound, slots_of}
use Rattle.dmc_heap.specs.internal.Heap.{IsSettled}
use Rattle.dmc_heap.specs.declared.indexed_heap.TheConstants.{VACANT}
use Rattle.dmc_heap.proofs.SoundLemmas.{key_in_room_if_held, some_entry_if_held, found, held_entry, hole_to_remove, removed_inner, removed_last}
use Rattle.dmc_heap.proofs.indexed_heap.IndexedHeapOrderIndex.remove.Given.{Over}
use Rattle.dmc_heap.proofs.indexed_heap.IndexedHeapOrderIndex.remove.Goals.{After-index-at, After-index-removed, After-unwrap-last, After-settle}
use Rattle.dmc_heap.proofs.indexed_heap.IndexedHeapOrderIndex.remove.Goals as goal

-- ---- what the paths share

place_is : (g : Over) (c : After-index-at g) → slice_get c.self.inside.places.items c.args.key ≡ Some c.index-at.result.now
place_is g c =
    let x = c.self.inside in
    let in_room = key_in_room_if_held g.R.Rank.cmp g.met.R.Rank.total _ x.heap.items x.places.items c.self.invariant c.args.key (rw c.self.view_is c.requires) in
    slice_get_read x.places.items (length x.places.items) c.args.key c.index-at.result.now refl in_room c.index-at.ensures

within : (g : Over) (c : After-index-at g) → c.index-at.result.now < length c.self.inside.heap.items
within g c =
    let x = c.self.inside in
    let old = found g.R.Rank.cmp g.met.R.Rank.total _ x.heap.items x.places.items c.self.invariant c.args.key c.index-at.result.now (place_is g c) (rw (sym c.self.view_is) at c.requires) in
    slice_get_within x.heap.items c.index-at.result.now old.0 old.1

rank_is : (g : Over) (c : After-index-removed g) → c.index-at.result.now < length c.self.inside.heap.items
    → slice_get c.self.inside.places.items c.args.key ≡ Some c.index-at.result.now
    → slot_of_key (slots_of c.self.inside.heap.items c.self.inside.places.items) c.args.key ≡ Some c.index-removed.result.now.rank
rank_is g c inner at =
    let x = c.self.inside in
    held_entry g.R.Rank.cmp g.met.R.Rank.total _ x.heap.items x.places.items c.self.invariant c.args.key c.index-at.result.now c.index-removed.result.now at
    (slice_get_read x.heap.items (length x.heap.items) c.index-at.result.now c.index-removed.result.now refl inner c.index-removed.ensures)

split_is : (g : Over) (c : After-unwrap-last g) → c.self.inside.heap.items ≡ c.pop.new.self.items ++ c.unwrap-last.result ∷ []
split_is g c = rw c.unwrap-last.ensures at c.pop.ensures.items

sound : (g : Over) (c : After-unwrap-last g) → IsSound g.R.Rank.cmp c.self.inside.heap.cap (c.pop.new.self.items ++ c.unwrap-last.result ∷ []) c.self.inside.places.items
sound g c = subst (λ h. IsSound g.R.Rank.cmp c.self.inside.heap.cap h c.self.inside.places.items) (split_is g c) c.self.invariant

held : (g : Over) (c : After-unwrap-last g) → IsSome (slot_of_key (slots_of (c.pop.new.self.items ++ c.unwrap-last.result ∷ []) c.self.inside.places.items) c.args.key)
held g c = subst (λ h. IsSome (slot_of_key (slots_of h c.self.inside.places.items) c.args.key)) (split_is g c) (rw (sym c.self.view_is) at c.requires)

few : (g : Over) (c : After-unwrap-last g) → length c.self.inside.places.items ≤ VACANT
few g c = let x = c.self.inside in omega (arith, x.places.ok.0, x.places.ok.1, x.places.small)

-- the new heap and indexes, without the removed one
last_gone : (g : Over) (c : After-unwrap-last g) → slice_get c.self.inside.places.items c.args.key ≡ Some c.index-at.result.now → length c.pop.new.self.items ≤ c.index-at.result.now
    → IsSound g.R.Rank.cmp c.self.inside.heap.cap c.pop.new.self.items (set c.self.inside.places.items c.args.key VACANT)
    × (slots_of c.pop.new.self.items (set c.self.inside.places.items c.args.key VACANT) ≡ set (slots_of (c.pop.new.self.items ++ c.unwrap-last.result ∷ []) c.self.inside.places.items) c.args.key None)
last_gone g c at end = removed_last g.R.Rank.cmp g.met.R.Rank.total _ c.pop.new.self.items c.unwrap-last.result c.self.inside.places.items (sound g c) (few g c) c.args.key c.index-at.result.now at (held g c) end

settled : (g : Over) (c : After-settle g) → IsSettled g.R.Rank.cmp c.pop.new.self.items (set c.self.inside.places.items c.args.key VACANT) c.index-at.result.now c.unwrap-last.result c.settle.new.heap c.settle.new.places
settled g c = rw (c.deref_mut.ensures.value, c.deref_mut-then-at-len.ensures.value) at c.settle.ensures

-- `settle` keeps both lengths, so what it lent is the whole of both
whole_heap : (g : Over) (c : After-settle g) → take c.pop.new.self.len (c.settle.new.heap ++ drop (length c.settle.new.heap) c.pop.new.self.items) ≡ c.settle.new.heap
whole_heap g c = take_at c.settle.new.heap (drop (length c.settle.new.heap) c.pop.new.self.items) c.pop.new.self.len (omega (arith, (settled g c).size, c.pop.new.self.ok.0))

whole_places : (g : Over) (c : After-settle g) → take c.self.inside.places.len (c.settle.new.places ++ drop (length c.settle.new.places) (set c.self.inside.places.items c.args.key VACANT)) ≡ c.settle.new.places
whole_places g c =
    let x = c.self.inside in
    take_at c.settle.new.places (drop (length c.settle.new.places) (set x.places.items c.args.key VACANT)) x.places.len (omega (arith, (settled g c).room, x.places.ok.0, length-set x.places.items c.args.key VACANT))

-- ---- the calls

pub index-at-requires : goal.index-at-requires
index-at-requires g c =
    let x = c.self.inside in
    omega (arith, key_in_room_if_held g.R.Rank.cmp g.met.R.Rank.total _ x.heap.items x.places.items c.self.invariant c.args.key (rw c.self.view_is c.requires), x.places.ok.0)

pub index-removed-requires : goal.index-removed-requires
index-removed-requires g c = omega (arith, within g (goal.at.index-removed-requires g c).After-index-at, c.self.inside.heap.ok.0)

pub unwrap-last-requires : goal.unwrap-last-requires
unwrap-last-requires g c =
    let x = c.self.inside in
    c.pop.ensures.variant.1 (omega (arith, some_entry_if_held g.R.Rank.cmp g.met.R.Rank.total _ x.heap.items x.places.items c.self.invariant c.args.key (rw c.self.view_is c.requires), x.heap.ok.0))

pub index_mut-requires : goal.index_mut-requires
index_mut-requires g c =
    let x = c.self.inside in
    omega (arith, key_in_room_if_held g.R.Rank.cmp g.met.R.Rank.total _ x.heap.items x.places.items c.self.invariant c.args.key (rw c.self.view_is c.requires), x.places.ok.0)

pub settle-requires : goal.settle-requires
settle-requires g c =
    let p = (goal.at.settle-requires g c).After-unwrap-last in
    rw (c.deref_mut.ensures.value, c.deref_mut-then-at-len.ensures.value)
    (hole_to_remove g.R.Rank.cmp g.met.R.Rank.total _ c.pop.new.self.items c.unwrap-last.result c.self.inside.places.items (sound g p) (few g p) c.args.key c.index-at.result.now
    (place_is g (goal.at.settle-requires g c).After-index-at) (held g p) (omega (arith, c.if-at-len.true, c.len.ensures, c.pop.new.self.ok.0)))

-- ---- what was removed

pub returns-then-at-len-clause-value : goal.returns-then-at-len-clause-value
returns-then-at-len-clause-value g c =
    let a = goal.at.returns-then-at-len-clause-value g c in
    rw c.self.view_is at (rank_is g a.After-index-removed (within g a.After-index-at) (place_is g a.After-index-at))

pub returns-else-at-len-clause-value : goal.returns-else-at-len-clause-value
returns-else-at-len-clause-value g c =
    let a = goal.at.returns-else-at-len-clause-value g c in
    rw c.self.view_is at (rank_is g a.After-index-removed (within g a.After-index-at) (place_is g a.After-index-at))

-- ---- what is left, if another was put in its place

pub invariant_of-self : goal.invariant_of-self
invariant_of-self g c =
    let a = goal.at.invariant_of-self g c in
    let p = a.After-unwrap-last in
    rw (whole_heap g a.After-settle, whole_places g a.After-settle, c.pop.ensures.capacity)
    ((removed_inner g.R.Rank.cmp g.met.R.Rank.total _ c.pop.new.self.items c.unwrap-last.result c.self.inside.places.items (sound g p) (few g p) c.args.key c.index-at.result.now (place_is g a.After-index-at) (held g p)
    (omega (arith, c.if-at-len.true, c.len.ensures, c.pop.new.self.ok.0)) _ _ (settled g a.After-settle)).0)

pub returns-then-at-len-clause-rest : goal.returns-then-at-len-clause-rest
returns-then-at-len-clause-rest g c =
    let a = goal.at.returns-then-at-len-clause-rest g c in
    let p = a.After-unwrap-last in
    rw (whole_heap g a.After-settle, whole_places g a.After-settle, ← c.self.view_is, split_is g p)
    ((removed_inner g.R.Rank.cmp g.met.R.Rank.total _ c.pop.new.self.items c.unwrap-last.result c.self.inside.places.items (sound g p) (few g p) c.args.key c.index-at.result.now (place_is g a.After-index-at) (held g p)
    (omega (arith, c.if-at-len.true, c.len.ensures, c.pop.new.self.ok.0)) _ _ (settled g a.After-settle)).1)

-- ---- what is left, if it was the last

pub invariant_of-self-else-at-len : goal.invariant_of-self-else-at-len
invariant_of-self-else-at-len g c =
    let a = goal.at.invariant_of-self-else-at-len g c in
    rw c.pop.ensures.capacity ((last_gone g a.After-unwrap-last (place_is g a.After-index-at) (omega (arith, c.if-at-len.false, c.len.ensures, c.pop.new.self.ok.0))).0)

pub returns-else-at-len-clause-rest : goal.returns-else-at-len-clause-rest
returns-else-at-len-clause-rest g c =
    let a = goal.at.returns-else-at-len-clause-rest g c in
    rw (← c.self.view_is, split_is g a.After-unwrap-last) ((last_gone g a.After-unwrap-last (place_is g a.After-index-at) (omega (arith, c.if-at-len.false, c.len.ensures, c.pop.new.self.ok.0))).1)

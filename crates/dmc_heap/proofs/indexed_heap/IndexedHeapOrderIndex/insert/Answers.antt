use Rattle.std.proofs.Common.{◌≡◌, ◌∷◌, [], ◌++◌, ◌<◌, length, take, drop, ap, ◌∙◌, arith}
use Rattle.std.proofs.lemmas.List.{take_at}
use Rattle.dmc_heap.specs.internal.Heap.{IsSettled}
use Rattle.dmc_heap.proofs.SoundLemmas.{length-slots, heap_short, hole_to_insert, inserted}
use Rattle.dmc_heap.proofs.indexed_heap.IndexedHeapOrderIndex.insert.Given.{Over}
use Rattle.dmc_heap.proofs.indexed_heap.IndexedHeapOrderIndex.insert.Goals.{After-push, After-unwrap, After-settle_leaf}
use Rattle.dmc_heap.proofs.indexed_heap.IndexedHeapOrderIndex.insert.Goals as goal

-- ---- what the paths share

in_room : (g : Over) (c : After-push g) → c.args.key < length c.self.inside.places.items
in_room g c =
    let x = c.self.inside in
    let size = rw c.self.view_is at (length-slots g.R.Rank.cmp g.met.R.Rank.total _ x.heap.items x.places.items c.self.invariant) in
    omega (arith, c.requires.in_room)

pushed : (g : Over) (c : After-unwrap g) → c.push.new.self.items ≡ c.self.inside.heap.items ++ record { rank = c.args.rank; key = c.args.key } ∷ []
pushed g c = rw c.unwrap.ensures at c.push.ensures.items

settled : (g : Over) (c : After-settle_leaf g) → c.push.new.self.items ≡ c.self.inside.heap.items ++ record { rank = c.args.rank; key = c.args.key } ∷ []
    → IsSettled g.R.Rank.cmp (c.self.inside.heap.items ++ record { rank = c.args.rank; key = c.args.key } ∷ []) c.self.inside.places.items
    (length c.self.inside.heap.items) (record { rank = c.args.rank; key = c.args.key }) c.settle_leaf.new.heap c.settle_leaf.new.places
settled g c is = rw (c.deref_mut.ensures.value, is, c.deref_mut-2.ensures.value, c.len-at.ensures ∙ c.self.inside.heap.ok.0) at c.settle_leaf.ensures

-- `settle_leaf` keeps both lengths, so what it lent is the whole of both
whole_heap : (g : Over) (c : After-settle_leaf g) → c.push.new.self.items ≡ c.self.inside.heap.items ++ record { rank = c.args.rank; key = c.args.key } ∷ []
    → take c.push.new.self.len (c.settle_leaf.new.heap ++ drop (length c.settle_leaf.new.heap) c.push.new.self.items) ≡ c.settle_leaf.new.heap
whole_heap g c is = take_at c.settle_leaf.new.heap (drop (length c.settle_leaf.new.heap) c.push.new.self.items) c.push.new.self.len (omega (arith, (settled g c is).size, ap length is, c.push.new.self.ok.0))

whole_places : (g : Over) (c : After-settle_leaf g) → c.push.new.self.items ≡ c.self.inside.heap.items ++ record { rank = c.args.rank; key = c.args.key } ∷ []
    → take c.self.inside.places.len (c.settle_leaf.new.places ++ drop (length c.settle_leaf.new.places) c.self.inside.places.items) ≡ c.settle_leaf.new.places
whole_places g c is = take_at c.settle_leaf.new.places (drop (length c.settle_leaf.new.places) c.self.inside.places.items) c.self.inside.places.len (omega (arith, (settled g c is).room, c.self.inside.places.ok.0))

-- ---- the goals

pub unwrap-requires : goal.unwrap-requires
unwrap-requires g c =
    let x = c.self.inside in
    let short = heap_short g.R.Rank.cmp g.met.R.Rank.total _ x.heap.items x.places.items c.self.invariant c.args.key c.args.rank (in_room g (goal.at.unwrap-requires g c).After-push) (rw c.self.view_is c.requires.vacant) in
    c.push.ensures.succeeds (omega (arith, x.heap.ok.0, c.self.invariant.memory))

pub settle_leaf-requires-clause-hole : goal.settle_leaf-requires-clause-hole
settle_leaf-requires-clause-hole g c =
    let a = goal.at.settle_leaf-requires-clause-hole g c in
    let x = c.self.inside in
    rw (c.deref_mut.ensures.value, pushed g a.After-unwrap, c.deref_mut-2.ensures.value, c.len-at.ensures ∙ x.heap.ok.0)
    (hole_to_insert g.R.Rank.cmp g.met.R.Rank.total _ x.heap.items x.places.items c.self.invariant c.args.key c.args.rank (in_room g a.After-push)
    (rw c.self.view_is c.requires.vacant) (omega (arith, c.deref_mut-2.type_inv.0, ap length c.deref_mut-2.ensures.value)))

pub invariant_of-self : goal.invariant_of-self
invariant_of-self g c =
    let a = goal.at.invariant_of-self g c in
    let x = c.self.inside in
    let is = pushed g a.After-unwrap in
    rw (whole_heap g a.After-settle_leaf is, whole_places g a.After-settle_leaf is)
    ((inserted g.R.Rank.cmp g.met.R.Rank.total _ x.heap.items x.places.items c.self.invariant c.args.key c.args.rank (in_room g a.After-push) (rw c.self.view_is c.requires.vacant)
    (omega (arith, c.deref_mut-2.type_inv.0, ap length c.deref_mut-2.ensures.value)) (rw c.self.view_is c.requires.apart) _ _ (settled g a.After-settle_leaf is) _ c.push.ensures.capacity).0)

pub returns : goal.returns
returns g c =
    let a = goal.at.returns g c in
    let x = c.self.inside in
    let is = pushed g a.After-unwrap in
    rw (whole_heap g a.After-settle_leaf is, whole_places g a.After-settle_leaf is, ← c.self.view_is)
    ((inserted g.R.Rank.cmp g.met.R.Rank.total _ x.heap.items x.places.items c.self.invariant c.args.key c.args.rank (in_room g a.After-push) (rw c.self.view_is c.requires.vacant)
    (omega (arith, c.deref_mut-2.type_inv.0, ap length c.deref_mut-2.ensures.value)) (rw c.self.view_is c.requires.apart) _ _ (settled g a.After-settle_leaf is) _ c.push.ensures.capacity).1)

use Rattle.std.proofs.Common.{length, drop, get_or, sym, ◌∙◌}
use Rattle.std.proofs.lemmas.List.{take_at}
use Rattle.std.proofs.lemmas.Option.{slice_get-get_or}
use Rattle.dmc_heap.proofs.SoundLemmas.{held_entry, IsSound-mapped, IsMapped-slots_of}
use Rattle.dmc_heap.proofs.indexed_heap.IndexedHeapOrderIndex.map_ranks.Goals as goal

pub map_entries-requires : goal.map_entries-requires
map_entries-requires g c =
    let x = c.self.inside in
    rw c.deref_mut.ensures.value (λ k d l. let there = slice_get-get_or x.heap.items k d l in let at = c.self.invariant.linked.placed k (get_or x.heap.items k d) there in c.requires.callable (get_or x.heap.items k d).key (get_or x.heap.items k d).rank (rw c.self.view_is at (held_entry g.R.Rank.cmp g.met.R.Rank.total _ x.heap.items x.places.items c.self.invariant (get_or x.heap.items k d).key k (get_or x.heap.items k d) at there)))

pub invariant_of-self : goal.invariant_of-self
invariant_of-self g c =
    let x = c.self.inside in
    let maps = rw c.deref_mut.ensures.value at c.map_entries.ensures in
    let all = take_at c.map_entries.new.entries (drop (length c.map_entries.new.entries) x.heap.items) x.heap.len (maps.size ∙ sym x.heap.ok.0) in
    rw all (IsSound-mapped g.R.Rank.cmp g.met.R.Rank.total _ x.heap.items x.places.items c.self.invariant _ _ maps (rw c.self.view_is c.requires.ordered))

pub returns : goal.returns
returns g c =
    let x = c.self.inside in
    let maps = rw c.deref_mut.ensures.value at c.map_entries.ensures in
    let all = take_at c.map_entries.new.entries (drop (length c.map_entries.new.entries) x.heap.items) x.heap.len (maps.size ∙ sym x.heap.ok.0) in
    rw (all, ← c.self.view_is) (IsMapped-slots_of g.R.Rank.cmp g.met.R.Rank.total _ x.heap.items x.places.items c.self.invariant _ _ maps)

use Rattle.std.proofs.Common.{length, drop, get_or, sym, ◌∙◌, arith}
use Rattle.std.proofs.lemmas.List.{take_at}
use Rattle.dmc_index.proofs.EntryLemmas.{held_entry, IsSound-mapped, IsMapped-slots_of}
use Rattle.dmc_index.proofs.list_index.ListIndexOrderIndex.map_ranks.Goals as goal

pub map_entries-requires : goal.map_entries-requires
map_entries-requires g c =
    let x = c.self.inside in
    rw c.deref_mut.ensures.value (λ k d l. c.requires.callable (get_or x.entries.items k d).key (get_or x.entries.items k d).rank (rw c.self.view_is at (held_entry g.R.Rank.cmp g.met.R.Rank.total x.room _ x.entries.items c.self.invariant k d l)))

pub invariant_of-self : goal.invariant_of-self
invariant_of-self g c =
    let x = c.self.inside in
    let maps = rw c.deref_mut.ensures.value at c.map_entries.ensures in
    let all = take_at c.map_entries.new.entries (drop (length c.map_entries.new.entries) x.entries.items) x.entries.len (maps.size ∙ sym x.entries.ok.0) in
    rw all (IsSound-mapped g.R.Rank.cmp g.met.R.Rank.total x.room _ x.entries.items c.self.invariant _ _ maps (rw c.self.view_is c.requires.ordered) _ (omega arith))

pub returns : goal.returns
returns g c =
    let x = c.self.inside in
    let maps = rw c.deref_mut.ensures.value at c.map_entries.ensures in
    let all = take_at c.map_entries.new.entries (drop (length c.map_entries.new.entries) x.entries.items) x.entries.len (maps.size ∙ sym x.entries.ok.0) in
    rw (all, ← c.self.view_is) (IsMapped-slots_of g.R.Rank.cmp g.met.R.Rank.total x.room _ x.entries.items c.self.invariant _ _ maps)

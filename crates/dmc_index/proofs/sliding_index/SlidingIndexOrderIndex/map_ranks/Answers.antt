use Rattle.std.proofs.Common.{length, drop, get_or, sym, ◌∙◌, arith}
use Rattle.std.proofs.lemmas.List.{take_at}
use Rattle.dmc_index.proofs.EntryLemmas.{held_entry, IsSound-mapped, IsMapped-slots_of}
use Rattle.dmc_index.proofs.sliding_index.SlidingIndexOrderIndex.map_ranks.Goals as goal

pub map_entries-requires : goal.map_entries-requires
map_entries-requires g c =
    let x = c.self.inside in
    let es = drop x.start x.entries.items in
    rw (c.deref_mut.ensures.value, c.close_gap.ensures.items)
    (λ k d l. c.requires.callable (get_or es k d).key (get_or es k d).rank (rw c.self.view_is at (held_entry g.R.Rank.cmp g.met.R.Rank.total x.room _ es c.self.invariant.0 k d l)))

pub invariant_of-self : goal.invariant_of-self
invariant_of-self g c =
    let x = c.self.inside in
    let es = drop x.start x.entries.items in
    let gap = c.close_gap.new.entries in
    let maps = rw (c.deref_mut.ensures.value, c.close_gap.ensures.items) at c.map_entries.ensures in
    let size = maps.size in
    let all = take_at c.map_entries.new.entries (drop (length c.map_entries.new.entries) gap.items) gap.len (rw (sym c.close_gap.ensures.items) at (maps.size) ∙ sym gap.ok.0) in
    rw all (IsSound-mapped g.R.Rank.cmp g.met.R.Rank.total x.room _ es c.self.invariant.0 _ _ maps (rw c.self.view_is c.requires.ordered) _ (omega (arith, c.close_gap.ensures.capacity)), omega arith)

pub returns : goal.returns
returns g c =
    let x = c.self.inside in
    let es = drop x.start x.entries.items in
    let gap = c.close_gap.new.entries in
    let maps = rw (c.deref_mut.ensures.value, c.close_gap.ensures.items) at c.map_entries.ensures in
    let all = take_at c.map_entries.new.entries (drop (length c.map_entries.new.entries) gap.items) gap.len (rw (sym c.close_gap.ensures.items) at (maps.size) ∙ sym gap.ok.0) in
    rw (all, ← c.self.view_is) (IsMapped-slots_of g.R.Rank.cmp g.met.R.Rank.total x.room _ es c.self.invariant.0 _ _ maps)

-- The index is found since the key is held, and the entries without it are the map without the key.
use Rattle.std.proofs.Common.{Some, None, set, sym, ap, ◌∙◌, arith}
use Rattle.dmc_index.specs.Entries.{slots_of}
use Rattle.dmc_index.proofs.EntryLemmas.{found_if_held, held_found, IsSound-remove, slots_of-remove}
use Rattle.dmc_index.proofs.list_index.ListIndexOrderIndex.remove.Goals as goal

pub unwrap-at-requires : goal.unwrap-at-requires
unwrap-at-requires g c =
    let x = c.self.inside in
    found_if_held g.R.Rank.cmp g.met.R.Rank.total x.room _ x.entries.items c.self.invariant c.args.key c.place_of.result (rw c.deref.ensures.value at c.place_of.ensures) (rw c.self.view_is c.requires)

pub invariant_of-self : goal.invariant_of-self
invariant_of-self g c =
    let x = c.self.inside in
    let found = held_found g.R.Rank.cmp g.met.R.Rank.total x.room _ x.entries.items c.self.invariant c.args.key c.unwrap-at.result c.remove.result (sym (rw c.deref.ensures.value at c.place_of.ensures) ∙ c.unwrap-at.ensures) in
    rw c.remove.ensures.items (IsSound-remove g.R.Rank.cmp g.met.R.Rank.total x.room _ x.entries.items c.self.invariant c.unwrap-at.result found.0 _ (omega (arith, c.remove.ensures.capacity)))

pub returns-clause-value : goal.returns-clause-value
returns-clause-value g c =
    let x = c.self.inside in
    let found = held_found g.R.Rank.cmp g.met.R.Rank.total x.room _ x.entries.items c.self.invariant c.args.key c.unwrap-at.result c.remove.result (sym (rw c.deref.ensures.value at c.place_of.ensures) ∙ c.unwrap-at.ensures) in
    (rw c.self.view_is at found.2) ∙ ap (λ e. Some e.rank) (sym c.remove.ensures.value)

pub returns-clause-rest : goal.returns-clause-rest
returns-clause-rest g c =
    let x = c.self.inside in
    let found = held_found g.R.Rank.cmp g.met.R.Rank.total x.room _ x.entries.items c.self.invariant c.args.key c.unwrap-at.result c.remove.result (sym (rw c.deref.ensures.value at c.place_of.ensures) ∙ c.unwrap-at.ensures) in
    ap (slots_of x.room) c.remove.ensures.items ∙ slots_of-remove g.R.Rank.cmp g.met.R.Rank.total x.room _ x.entries.items c.self.invariant c.unwrap-at.result c.remove.result found.0 ∙ ap (λ k. set (slots_of x.room x.entries.items) k None) found.1 ∙ ap (λ s. set s c.args.key None) c.self.view_is

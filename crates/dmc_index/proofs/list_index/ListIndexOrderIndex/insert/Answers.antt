-- The new entry is between the ranks below it and those above it.
use Rattle.std.proofs.Common.{Some, set, refl, ap, ◌∙◌, arith}
use Rattle.dmc_index.specs.Entries.{slots_of}
use Rattle.dmc_index.proofs.EntryLemmas.{length-slots_of, short_of_room, IsSound-insert, slots_of-insert_at}
use Rattle.dmc_index.proofs.list_index.ListIndexOrderIndex.insert.Goals as goal

pub unwrap-requires : goal.unwrap-requires
unwrap-requires g c =
    let x = c.self.inside in
    let size = rw c.self.view_is at (length-slots_of x.room x.entries.items) in
    let short = short_of_room g.R.Rank.cmp g.met.R.Rank.total x.room _ x.entries.items c.self.invariant c.args.key c.args.rank (omega arith) (rw c.self.view_is c.requires.vacant) in
    c.insert.ensures.succeeds (omega (arith, x.entries.ok.0))

pub invariant_of-self : goal.invariant_of-self
invariant_of-self g c =
    let x = c.self.inside in
    let size = rw c.self.view_is at (length-slots_of x.room x.entries.items) in
    let bound = rw c.deref.ensures.value at c.place_for-at.ensures.bound in
    let parts = rw c.deref.ensures.value at c.place_for-at.ensures.parts in
    let items = rw c.unwrap.ensures at c.insert.ensures.items in
    rw items (IsSound-insert g.R.Rank.cmp g.met.R.Rank.total x.room _ x.entries.items c.self.invariant c.args.key c.args.rank c.place_for-at.result bound parts.0 parts.1 (rw c.self.view_is c.requires.vacant) (rw c.self.view_is c.requires.apart) _ refl refl (omega arith) _ c.insert.ensures.capacity)

pub returns : goal.returns
returns g c =
    let x = c.self.inside in
    let bound = rw c.deref.ensures.value at c.place_for-at.ensures.bound in
    let parts = rw c.deref.ensures.value at c.place_for-at.ensures.parts in
    let items = rw c.unwrap.ensures at c.insert.ensures.items in
    ap (slots_of x.room) items ∙ slots_of-insert_at g.R.Rank.cmp g.met.R.Rank.total x.room _ x.entries.items c.self.invariant c.args.key c.args.rank c.place_for-at.result bound parts.0 parts.1 (rw c.self.view_is c.requires.vacant) (rw c.self.view_is c.requires.apart) _ refl refl ∙ ap (λ s. set s c.args.key (Some c.args.rank)) c.self.view_is

use Rattle.std.proofs.Common.{Some, sym, ap, ◌∙◌}
use Rattle.dmc_index.proofs.EntryLemmas.{held_found, held_not_found}
use Rattle.dmc_index.proofs.list_index.ListIndexOrderIndex.get.Goals as goal

pub returns-in_err-at : goal.returns-in_err-at
returns-in_err-at g c =
    let x = c.self.inside in
    let none = held_not_found g.R.Rank.cmp g.met.R.Rank.total x.room _ x.entries.items c.self.invariant c.args.key (sym (rw c.deref.ensures.value at c.place_of.ensures) ∙ c.in_err-at.was) in
    c.from_residual.ensures ∙ sym (rw c.self.view_is at none)

pub returns : goal.returns
returns g c =
    let x = c.self.inside in
    let read = c.index.result.now in
    let found = held_found g.R.Rank.cmp g.met.R.Rank.total x.room _ x.entries.items c.self.invariant c.args.key c.in_ok-at.at read (sym (rw c.deref.ensures.value at c.place_of.ensures) ∙ c.in_ok-at.was) in
    ap (λ e. Some e.rank) c.index.ensures ∙ sym (rw c.self.view_is at found.2)

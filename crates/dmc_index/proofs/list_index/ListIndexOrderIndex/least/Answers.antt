use Rattle.std.proofs.Common.{sym}
use Rattle.dmc_index.proofs.EntryLemmas.{IsLeast-first, IsEmpty-nil}
use Rattle.dmc_index.proofs.list_index.ListIndexOrderIndex.least.Goals as goal

pub returns : goal.returns
returns g c =
    let x = c.self.inside in
    let first = c.in_ok-first.first.now in
    let item = rw c.deref.ensures.value at c.in_ok-first.ensures.item in
    let least = IsLeast-first g.R.Rank.cmp g.met.R.Rank.total x.room _ x.entries.items c.self.invariant first item.3.0 in
    rw c.self.view_is at (rw (sym item.1) at least)

pub returns-in_err-first : goal.returns-in_err-first
returns-in_err-first g c =
    let x = c.self.inside in
    let item = rw c.deref.ensures.value at c.in_err-first.ensures.item in
    rw c.from_residual.ensures (rw c.self.view_is at (IsEmpty-nil g.R.Rank.cmp g.met.R.Rank.total x.room _ x.entries.items c.self.invariant item.3))

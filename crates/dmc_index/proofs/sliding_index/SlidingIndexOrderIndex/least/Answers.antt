use Rattle.std.proofs.Common.{◌≡◌, ◌+◌, drop, get_or, ap, sym, ◌∙◌, arith}
use Rattle.std.proofs.lemmas.List.{get_or-drop, length-drop}
use Rattle.dmc_index.proofs.EntryLemmas.{IsLeast-first}
use Rattle.dmc_index.proofs.sliding_index.SlidingIndexOrderIndex.least.Goals as goal

pub returns : goal.returns
returns g c =
    let x = c.self.inside in
    let first = c.in_ok-first.first.now in
    let es = x.entries.items in
    let item = rw c.deref.ensures.value at c.in_ok-first.ensures.lookup in
    let next : x.start + 0 ≡ x.start = omega arith in
    let here = get_or-drop x.start es 0 first ∙ ap (λ n. get_or es n first) next ∙ sym item.1 in
    let least = IsLeast-first g.R.Rank.cmp g.met.R.Rank.total x.room _ (drop x.start es) c.self.invariant.0 first (omega (arith, length-drop x.start es, item.3.0)) in
    rw c.self.view_is at (rw here at least)

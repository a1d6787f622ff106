use Rattle.std.proofs.Common.{◌≡◌, ◌-◌, drop, length, ◌∙◌, sym, subst, ap, count_by, is_some, arith}
use Rattle.std.proofs.lemmas.List.{length-drop}
use Rattle.dmc_index.specs.Index.{AreApart}
use Rattle.dmc_index.proofs.EntryLemmas.{count-slots_of, AreApart-slots_of}
use Rattle.dmc_index.proofs.sliding_index.SlidingIndexOrderIndex.len.Goals as goal

pub returns-clause-value : goal.returns-clause-value
returns-clause-value g c =
    let x = c.self.inside in
    let es = drop x.start x.entries.items in
    let live : c.len.result - x.start ≡ length es = omega (arith, c.len.ensures, x.entries.ok.0, length-drop x.start x.entries.items) in
    live ∙ sym (count-slots_of x.room es c.self.invariant.0.distinct c.self.invariant.0.in_room) ∙ ap (count_by is_some) c.self.view_is

pub returns-clause-distinct : goal.returns-clause-distinct
returns-clause-distinct g c =
    let x = c.self.inside in
    subst (AreApart g.R.Rank.cmp) c.self.view_is (AreApart-slots_of g.R.Rank.cmp g.met.R.Rank.total x.room _ (drop x.start x.entries.items) c.self.invariant.0)

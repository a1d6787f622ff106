use Rattle.std.proofs.Common.{◌∙◌, sym, subst, ap, count_by, is_some}
use Rattle.dmc_index.specs.Index.{AreApart}
use Rattle.dmc_index.proofs.EntryLemmas.{count-slots_of, AreApart-slots_of}
use Rattle.dmc_index.proofs.list_index.ListIndexOrderIndex.len.Goals as goal

pub returns-clause-value : goal.returns-clause-value
returns-clause-value g c =
    c.len.ensures ∙ c.self.inside.entries.ok.0 ∙ sym (count-slots_of c.self.inside.room c.self.inside.entries.items c.self.invariant.distinct c.self.invariant.in_room) ∙ ap (count_by is_some) c.self.view_is

pub returns-clause-distinct : goal.returns-clause-distinct
returns-clause-distinct g c =
    subst (AreApart g.R.Rank.cmp) c.self.view_is (AreApart-slots_of g.R.Rank.cmp g.met.R.Rank.total _ _ c.self.inside.entries.items c.self.invariant)

use Rattle.std.proofs.Common.{◌∙◌, ap, sym, subst}
use Rattle.dmc_roster.specs.Entries.{AreDistinct}
use Rattle.std.specs.Prelude.{length}
use Rattle.dmc_roster.proofs.Held.{length_entries, are_distinct}
use Rattle.dmc_roster.proofs.roster.Roster.len.Goals as goal

pub returns-clause-value : goal.returns-clause-value
returns-clause-value g c = c.len.ensures.len ∙ sym (length_entries c.self.inside.records.slots c.self.inside.ids.entries c.self.invariant.held) ∙ ap (λ r. length r.entries) c.self.view_is

pub returns-clause-distinct : goal.returns-clause-distinct
returns-clause-distinct g c = subst (λ r. AreDistinct r.entries) c.self.view_is (are_distinct c.self.inside.records.slots c.self.inside.ids.entries c.self.invariant.apart)

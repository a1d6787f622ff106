use Rattle.std.proofs.Common.{rules, ◌≡◌, true, ◌∙◌, ap, sym, subst}
use Rattle.std.specs.Prelude.{is_some}
use Rattle.std.specs.Option.{option_copied}
use Rattle.dmc_roster.specs.Entries.{record_at, entry_keyed, entries_of, AreDistinct}
use Rattle.dmc_roster.proofs.Held.{record_at_key, is_some_mapped, are_distinct}
use Rattle.dmc_roster.proofs.roster.Roster.at.Goals as goal

pub unwrap-requires : goal.unwrap-requires
unwrap-requires g c =
    let e = subst (λ r. is_some (entry_keyed c.args.key r.entries) ≡ true) (sym c.self.view_is) c.requires in
    let found = record_at_key c.self.inside.records.slots c.args.key c.self.inside.ids.entries e in
    let some : is_some c.get.result ≡ true = sym (is_some_mapped (λ x. x.now) c.get.result) ∙ ap is_some (c.get.ensures ∙ sym found) ∙ is_some_mapped (λ e. e.rec) (entry_keyed c.args.key (entries_of c.self.inside.ids.entries c.self.inside.records.slots)) ∙ e in
    search rules

pub returns-clause-value : goal.returns-clause-value
returns-clause-value g c =
    let e = subst (λ r. is_some (entry_keyed c.args.key r.entries) ≡ true) (sym c.self.view_is) c.requires in
    let found = record_at_key c.self.inside.records.slots c.args.key c.self.inside.ids.entries e in
    sym (ap (λ r. record_at c.args.key r.entries) c.self.view_is) ∙ found ∙ sym c.get.ensures ∙ ap option_copied c.unwrap.ensures

pub returns-clause-distinct : goal.returns-clause-distinct
returns-clause-distinct g c = subst (λ r. AreDistinct r.entries) c.self.view_is (are_distinct c.self.inside.records.slots c.self.inside.ids.entries c.self.invariant.apart)

use Rattle.std.proofs.Common.{refl, ◌∙◌, ap, sym, subst}
use Rattle.std.specs.Option.{option_map}
use Rattle.dmc_roster.specs.Entries.{entry_named, AreDistinct}
use Rattle.dmc_roster.proofs.Held.{named, eqb_turned, are_distinct, found_keyed, found_held}
use Rattle.dmc_roster.proofs.roster.Roster.find_with_hint.Goals as goal

pub returns-clause-key : goal.returns-clause-key
returns-clause-key g c =
    c.key_with_hint.ensures
    ∙ sym (named c.self.inside.records.slots c.args.id _ (λ other. eqb_turned c.args.id.0 other.0 _ refl) c.self.inside.ids.entries c.self.invariant.held)
    ∙ ap (λ r. option_map (λ e. e.key) (entry_named c.args.id r.entries)) c.self.view_is

pub returns-clause-entry : goal.returns-clause-entry
returns-clause-entry g c =
    let distinct = subst (λ r. AreDistinct r.entries) c.self.view_is (are_distinct c.self.inside.records.slots c.self.inside.ids.entries c.self.invariant.apart) in
    found_keyed c.key_with_hint.result c.args.id c.args.self.now.entries distinct (returns-clause-key g c)

pub returns-clause-held : goal.returns-clause-held
returns-clause-held g c =
    let distinct = subst (λ r. AreDistinct r.entries) c.self.view_is (are_distinct c.self.inside.records.slots c.self.inside.ids.entries c.self.invariant.apart) in
    found_held c.key_with_hint.result c.args.id c.args.self.now.entries distinct (returns-clause-key g c)

pub returns-clause-distinct : goal.returns-clause-distinct
returns-clause-distinct g c = subst (λ r. AreDistinct r.entries) c.self.view_is (are_distinct c.self.inside.records.slots c.self.inside.ids.entries c.self.invariant.apart)

use Rattle.std.proofs.Common.{rules, ◌≡◌, true, refl, ap, sym, ◌∙◌, subst}
use Rattle.std.specs.Prelude.{is_some, slice_index_or, None}
use Rattle.dmc_roster.specs.Entries.{entry_keyed, entries_of}
use Rattle.dmc_roster.proofs.Held.{are_lent, lent_entries, record_at_key, is_some_mapped}
use Rattle.dmc_roster.proofs.roster.Roster.at_mut.Goals as goal

pub index_mut-requires : goal.index_mut-requires
index_mut-requires g c =
    let e = subst (λ r. is_some (entry_keyed c.args.key r.entries) ≡ true) (sym c.self.view_is) c.requires in
    let found = record_at_key c.self.inside.records.slots c.args.key c.self.inside.ids.entries e in
    let some : is_some (slice_index_or c.self.inside.records.slots c.args.key None) ≡ true = ap is_some (sym found) ∙ is_some_mapped (λ e. e.rec) (entry_keyed c.args.key (entries_of c.self.inside.ids.entries c.self.inside.records.slots)) ∙ e in
    search rules

pub invariant_of-self-lent : goal.invariant_of-self-lent
invariant_of-self-lent g c = λ w. are_lent c.self.inside.records.slots c.args.key w c.self.inside.ids.entries c.self.invariant

pub returns : goal.returns
returns g c =
    let slots = c.self.inside.records.slots in
    let ids = c.self.inside.ids.entries in
    let e = subst (λ r. is_some (entry_keyed c.args.key r.entries) ≡ true) (sym c.self.view_is) c.requires in
    rw (← c.self.view_is) (
      (refl, λ w. ap (λ es. record { entries = es; next_key = c.self.inside.records.vacant_key }) (lent_entries slots c.args.key w ids c.self.invariant.held)),
      record { writes_back = tt; value = record_at_key slots c.args.key ids e ∙ c.index_mut.ensures.value },
    )

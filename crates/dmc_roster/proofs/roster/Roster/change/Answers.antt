use Rattle.std.proofs.Common.{map, ap, ◌∙◌}
use Rattle.dmc_client.specs.Record.{IsRecord}
use Rattle.dmc_roster.specs.Entries.{with_rec}
use Rattle.dmc_roster.proofs.Held.{all_records, entries_changed, held_changed}
use Rattle.dmc_roster.proofs.roster.Roster.change.Goals as goal

pub invariant_of-self : goal.invariant_of-self
invariant_of-self g c =
    let keeps = g.R.RecordRule.keeps c.args.rule.now in
    let changed = g.R.RecordRule.changed c.args.rule.now in
    rw (c.apply_to_each.ensures.slots) (record {
      held = held_changed keeps changed c.requires c.self.inside.records.slots c.self.inside.ids.entries c.self.invariant.held;
      apart = c.self.invariant.apart;
      bound = c.self.invariant.bound;
    })

pub returns-clause-value : goal.returns-clause-value
returns-clause-value g c =
    let keeps = g.R.RecordRule.keeps c.args.rule.now in
    let changed = g.R.RecordRule.changed c.args.rule.now in
    rw (c.apply_to_each.ensures.slots) (entries_changed keeps changed c.requires c.self.inside.records.slots c.self.inside.ids.entries)
    ∙ ap (λ r. map (λ e. with_rec (changed e.key) e) r.entries) c.self.view_is

pub returns-clause-kept : goal.returns-clause-kept
returns-clause-kept g c = all_records (IsRecord g.T.Tag.ops) c.apply_to_each.new.records.slots c.self.inside.ids.entries c.apply_to_each.ensures.kept

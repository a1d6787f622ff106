use Rattle.std.proofs.Common.{map, arith, ap, ◌∙◌}
use Rattle.std.specs.Prelude.{slice_index_or, None, is_some, filter}
use Rattle.dmc_client.specs.Record.{IsRecord}
use Rattle.dmc_roster.specs.Entries.{with_rec}
use Rattle.dmc_roster.proofs.Held.{all_records, slots_kept, held_kept, apart_filtered, length_filtered}
use Rattle.dmc_roster.proofs.roster.Roster.retain.Goals as goal

pub invariant_of-self : goal.invariant_of-self
invariant_of-self g c =
    let slots = c.apply_to_each.new.records.slots in
    let ids = c.self.inside.ids.entries in
    let fewer = length_filtered (λ p. is_some (slice_index_or slots p.1 None)) ids in
    rw c.drop_vacant.ensures (record {
      held = held_kept slots ids;
      apart = apart_filtered _ ids c.self.invariant.apart;
      bound = omega (arith, c.self.invariant.bound);
    })

pub returns-clause-value : goal.returns-clause-value
returns-clause-value g c =
    let keeps = g.R.RecordRule.keeps c.args.rule.now in
    let changed = g.R.RecordRule.changed c.args.rule.now in
    rw (c.drop_vacant.ensures, c.apply_to_each.ensures.slots) (slots_kept keeps changed c.self.inside.records.slots c.self.inside.ids.entries)
    ∙ ap (λ r. map (λ e. with_rec (changed e.key) e) (filter (λ e. keeps e.key e.rec) r.entries)) c.self.view_is

pub returns-clause-kept : goal.returns-clause-kept
returns-clause-kept g c = all_records (IsRecord g.T.Tag.ops) c.apply_to_each.new.records.slots c.drop_vacant.new.ids.entries c.apply_to_each.ensures.kept

use Rattle.std.proofs.Common.{rules}
use Rattle.dmc_client.specs.Record.{IsRecord}
use Rattle.dmc_roster.proofs.Held.{slots_retained, slots_hold}
use Rattle.dmc_roster.proofs.roster.apply_to_each.Goals as goal

pub returns-clause-slots : goal.returns-clause-slots
returns-clause-slots g c = slots_retained _ _ (g.R.RecordRule.keeps c.args.rule.now) (g.R.RecordRule.changed c.args.rule.now) (λ key old keep new next call. search rules) 0 c.args.records.now.slots c.retain.new.self.slots c.retain.ensures.retained

pub returns-clause-kept : goal.returns-clause-kept
returns-clause-kept g c = slots_hold (IsRecord g.T.Tag.ops) _ _ (λ key old keep new next call. search rules) 0 c.args.records.now.slots c.retain.new.self.slots c.retain.ensures.retained

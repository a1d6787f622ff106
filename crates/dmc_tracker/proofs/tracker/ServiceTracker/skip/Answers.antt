use Rattle.std.proofs.Common.{◌∙◌}
use Rattle.dmc_tracker.proofs.Steps.{within_all, skip_kept, skip_seen, represents_after_skip}
use Rattle.dmc_tracker.proofs.tracker.ServiceTracker.skip.Goals as goal

pub returns-clause-after : goal.returns-clause-after
returns-clause-after c =
    skip_seen c.self.invariant c.self.view_is (within_all c.self.invariant c.self.view_is (c.len.ensures ∙ c.self.inside.servers.ok.0) c.if-index-len.false) c.index.ensures c.counted-total.ensures c.minus-pending.ensures c.plus.ensures

pub returns-clause-represents : goal.returns-clause-represents
returns-clause-represents c =
    represents_after_skip (within_all c.self.invariant c.self.view_is (c.len.ensures ∙ c.self.inside.servers.ok.0) c.if-index-len.false) (returns-clause-after c)

pub invariant_of-self : goal.invariant_of-self
invariant_of-self c =
    skip_kept c.self.invariant c.self.view_is (within_all c.self.invariant c.self.view_is (c.len.ensures ∙ c.self.inside.servers.ok.0) c.if-index-len.false) c.index.ensures c.counted-total.ensures c.minus-pending.ensures c.plus.ensures

use Rattle.std.proofs.Common.{◌∙◌}
use Rattle.dmc_shards.proofs.Steps.{within_all, skip_seen, represents_after_skip}
use Rattle.dmc_shards.proofs.tracker.ShardTracker.skip.Goals as goal

pub returns-clause-after : goal.returns-clause-after
returns-clause-after c =
    skip_seen c.self.invariant c.self.view_is (within_all c.self.invariant c.self.view_is (c.len.ensures ∙ c.self.inside.shards.ok.0) c.if-index-len.false) c.index.ensures c.pending-pending.ensures c.plus.ensures

pub returns-clause-represents : goal.returns-clause-represents
returns-clause-represents c =
    represents_after_skip c.args.shard (within_all c.self.invariant c.self.view_is (c.len.ensures ∙ c.self.inside.shards.ok.0) c.if-index-len.false) (returns-clause-after c)

use Rattle.std.proofs.Common.{◌<◌, ◌≤◌, length, ap, ◌∙◌, arith}
use Rattle.dmc_types.specs.Values.{Counts}
use Rattle.dmc_shards.specs.declared.shard.ShardCounts.{ShardCounts}
use Rattle.dmc_shards.proofs.Steps.{within_all, give_back_seen, sent_there, represents_after_give_back}
use Rattle.dmc_shards.proofs.tracker.ShardTracker.give_back.Goals as goal

pub returns-clause-after : goal.returns-clause-after
returns-clause-after c =
    let within : c.args.shard.0 < length c.args.self.now.shards = within_all c.self.invariant c.self.view_is (c.len.ensures ∙ c.self.inside.shards.ok.0) c.if-index-len.false in
    let delta : c.of_stamp-given.result.delta ≤ c.index-counts.result.now.sent.delta = omega (arith, c.if-given-counts.false, ap (λ (x : Counts). x.delta) c.given.view_is, ap (λ (x : ShardCounts). x.sent.delta) c.counts.view_is) in
    let rho : c.of_stamp-given.result.rho ≤ c.index-counts.result.now.sent.rho = omega (arith, c.if-given-counts-2.false, ap (λ (x : Counts). x.rho) c.given.view_is, ap (λ (x : ShardCounts). x.sent.rho) c.counts.view_is) in
    give_back_seen c.self.invariant c.self.view_is within c.index-counts.ensures c.args.params c.of_stamp-given.ensures delta rho c.minus.ensures

pub returns-clause-represents : goal.returns-clause-represents
returns-clause-represents c =
    let within : c.args.shard.0 < length c.args.self.now.shards = within_all c.self.invariant c.self.view_is (c.len.ensures ∙ c.self.inside.shards.ok.0) c.if-index-len.false in
    let delta : c.of_stamp-given.result.delta ≤ c.index-counts.result.now.sent.delta = omega (arith, c.if-given-counts.false, ap (λ (x : Counts). x.delta) c.given.view_is, ap (λ (x : ShardCounts). x.sent.delta) c.counts.view_is) in
    let rho : c.of_stamp-given.result.rho ≤ c.index-counts.result.now.sent.rho = omega (arith, c.if-given-counts-2.false, ap (λ (x : Counts). x.rho) c.given.view_is, ap (λ (x : ShardCounts). x.sent.rho) c.counts.view_is) in
    represents_after_give_back c.args.shard c.args.params within (sent_there c.self.invariant c.self.view_is within c.index-counts.ensures c.args.params c.of_stamp-given.ensures delta rho) (returns-clause-after c)

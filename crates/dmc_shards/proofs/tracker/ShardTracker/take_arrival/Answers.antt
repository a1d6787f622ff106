use Rattle.std.proofs.Common.{ap, ◌∙◌}
use Rattle.dmc_types.specs.Values.{counts_of}
use Rattle.dmc_shards.proofs.Steps.{arrival_seen}
use Rattle.dmc_shards.proofs.tracker.ShardTracker.take_arrival.Goals as goal

pub returns-clause-after : goal.returns-clause-after
returns-clause-after c =
    arrival_seen c.self.invariant c.self.view_is c.requires.within c.index-counts.ensures c.args.params c.of_stamp.ensures c.plus-came.ensures (c.of_stamp-2.ensures ∙ ap counts_of c.requires.stamped) c.plus.ensures

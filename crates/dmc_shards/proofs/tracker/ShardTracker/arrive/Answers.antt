use Rattle.dmc_shards.proofs.Steps.{represents_after_arrival}
use Rattle.dmc_shards.proofs.tracker.ShardTracker.arrive.Goals as goal

pub returns-clause-represents : goal.returns-clause-represents
returns-clause-represents c = represents_after_arrival c.args.shard c.args.params c.in_ok-stamped.ensures.within c.take_arrival.ensures.after c.in_ok-stamped.ensures.params

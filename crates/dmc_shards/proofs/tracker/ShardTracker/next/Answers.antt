use Rattle.dmc_shards.proofs.Steps.{next_is_demanded}
use Rattle.dmc_shards.proofs.tracker.ShardTracker.next.Goals as goal

pub returns-clause-demanded : goal.returns-clause-demanded
returns-clause-demanded c = next_is_demanded c.args.shard c.args.params c.in_ok-test_arrival.ensures.within c.next_stamp.ensures

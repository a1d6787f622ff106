use Rattle.dmc_sharded.proofs.LockLemmas.{next_is_stamp, some_stamp_if_ok, some_stamp_if_err}
use Rattle.dmc_sharded.proofs.lock.ArrivalLock.submit.Goals as goal

pub returns-clause-accepted : goal.returns-clause-accepted
returns-clause-accepted g c =
    rw (← c.self.view_is) (some_stamp_if_ok _ (next_is_stamp c.deref_mut.result.now.tracker c.args.shard c.args.params) c.submit_for.result _ c.submit_for.ensures.accepted)

pub returns-clause-refused : goal.returns-clause-refused
returns-clause-refused g c =
    rw (← c.self.view_is) (some_stamp_if_err _ (next_is_stamp c.deref_mut.result.now.tracker c.args.shard c.args.params) c.submit_for.result _ c.submit_for.ensures.pass)

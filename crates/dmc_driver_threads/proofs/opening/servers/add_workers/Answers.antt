use Rattle.std.proofs.Common.{arith}
use Rattle.std.proofs.lemmas.List.{length_push}
use Rattle.dmc_driver_threads.proofs.Numbering.{numbered_more, worker_of}
use Rattle.dmc_driver_threads.proofs.opening.servers.add_workers.Goals as goal

pub loop-worker-preserved : goal.loop-worker-preserved
loop-worker-preserved c =
    let n = c.loop-worker.worker in
    record {
      numbered = rw c.in_ok-push.ensures.items (numbered_more n c.loop-worker.ids.items c.loop-worker.invariant.numbered);
      as_many = rw c.in_ok-push.ensures.items (omega (arith, length_push c.loop-worker.ids.items (worker_of n), c.loop-worker.invariant.as_many));
    }

use Rattle.dmc_core.proofs.cluster_core.ClusterCore.request_count.Goals as goal
use Rattle.std.proofs.Common.{Some, ap}

pub returns : goal.returns
returns g c = rw (← c.self.view_is, ← c.queue.ensures, c.in_ok-queue.was) (ap Some c.request_count.ensures)

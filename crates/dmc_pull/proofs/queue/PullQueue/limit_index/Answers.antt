use Rattle.std.proofs.Common.{subst}
use Rattle.dmc_pull.specs.Queue.{state_of}
use Rattle.dmc_pull.specs.FirstRequests.{AreFirstRequests}
use Rattle.dmc_pull.proofs.Common.FirstRequests.{first_requests}
use Rattle.dmc_pull.proofs.queue.PullQueue.limit_index.Goals as goal

pub returns-clause-heads : goal.returns-clause-heads
returns-clause-heads g c =
    let ops = g.T.Tag.ops in
    subst (λ q. AreFirstRequests ops (state_of q) q.heads) c.self.view_is
    (first_requests ops g.T.Tag.fraction g.T.Tag.is_value _ c.self.inside.queued c.self.invariant.0)

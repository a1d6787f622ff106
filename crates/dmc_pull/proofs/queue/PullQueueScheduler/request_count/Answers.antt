-- Answered here, so that a wrong body fails here.
use Rattle.std.proofs.Common.{rules}
use Rattle.dmc_pull.proofs.queue.PullQueueScheduler.request_count.Goals as goal

pub returns : goal.returns
returns g c = search rules

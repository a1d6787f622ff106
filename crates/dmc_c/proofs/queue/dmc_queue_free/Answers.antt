-- Answered here, so that a wrong body fails here.
use Rattle.std.proofs.Common.{rules}
use Rattle.dmc_c.proofs.queue.dmc_queue_free.Goals as goal

pub returns-in-Some : goal.returns-in-Some
returns-in-Some g = search rules

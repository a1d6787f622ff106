-- Answered here, so that a wrong body fails here.
use Rattle.std.proofs.Common.{rules}
use Rattle.dmc_c.proofs.queue.take_out.Goals as goal

pub returns : goal.returns
returns g = search rules

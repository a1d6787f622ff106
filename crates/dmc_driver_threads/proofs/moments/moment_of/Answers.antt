-- Answered here, so that a wrong body fails here.
use Rattle.std.proofs.Common.{rules}
use Rattle.dmc_driver_threads.proofs.moments.moment_of.Goals as goal

pub returns : goal.returns
returns g = search rules

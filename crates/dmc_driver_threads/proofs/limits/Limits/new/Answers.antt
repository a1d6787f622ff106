-- Answered here, so that a wrong body fails here.
use Rattle.std.proofs.Common.{rules}
use Rattle.dmc_driver_threads.proofs.limits.Limits.new.Goals as goal

pub invariant_of-result : goal.invariant_of-result
invariant_of-result g = search rules

pub returns-clause-some : goal.returns-clause-some
returns-clause-some g = search rules

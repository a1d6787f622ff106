-- Answered here, so that a wrong body fails here.
use Rattle.std.proofs.Common.{rules}
use Rattle.dmc_ledger.proofs.till.shift_till.Goals as goal

pub invariant_of-to : goal.invariant_of-to
invariant_of-to g c = search rules

pub returns-clause-to : goal.returns-clause-to
returns-clause-to g c = search rules

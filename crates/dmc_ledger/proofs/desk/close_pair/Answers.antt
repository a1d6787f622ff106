-- Answered here, so that a wrong body fails here.
use Rattle.std.proofs.Common.{rules}
use Rattle.dmc_ledger.proofs.desk.close_pair.Goals as goal

pub returns-clause-grants : goal.returns-clause-grants
returns-clause-grants g c = search rules

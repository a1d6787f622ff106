-- Answered here, so that a wrong body fails here.
use Rattle.std.proofs.Common.{rules}
use Rattle.dmc_ledger.proofs.bundle.GrantTills.take.Goals as goal

pub returns-in-Priority-clause-taken : goal.returns-in-Priority-clause-taken
returns-in-Priority-clause-taken g c = search rules

pub returns-in-Priority-clause-tills : goal.returns-in-Priority-clause-tills
returns-in-Priority-clause-tills g c = search rules

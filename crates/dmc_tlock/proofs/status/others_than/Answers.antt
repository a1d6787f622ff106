-- Answered here, so that a wrong body fails here.
use Rattle.std.proofs.Common.{rules}
use Rattle.dmc_tlock.proofs.status.others_than.Goals as goal

pub returns-clause-all : goal.returns-clause-all
returns-clause-all g c = search rules

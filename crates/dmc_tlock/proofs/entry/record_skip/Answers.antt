-- Answered here, so that a wrong body fails here.
use Rattle.std.proofs.Common.{rules}
use Rattle.dmc_tlock.proofs.entry.record_skip.Goals as goal

pub returns-clause-events : goal.returns-clause-events
returns-clause-events c = search rules

-- Answered here, so that a wrong body fails here.
use Rattle.std.proofs.Common.{rules}
use Rattle.dmc_tlock.proofs.lock.LockedTracker+TrackerBook+S+W.respond.Goals as goal

pub returns-in-Ok-clause-tills : goal.returns-in-Ok-clause-tills
returns-in-Ok-clause-tills g c = search rules

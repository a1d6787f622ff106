-- Answered here, so that a wrong body fails here.
use Rattle.std.proofs.Common.{rules}
use Rattle.dmc_tlock.proofs.lock.LockedTracker+TrackerBook+S+W.stamp.Goals as goal

pub returns-clause-tills : goal.returns-clause-tills
returns-clause-tills g c = search rules

-- Answered here, so that a wrong body fails here.
use Rattle.std.proofs.Common.{rules}
use Rattle.dmc_tlock.proofs.lock.LockedTracker+TrackerBook+S+W.status.Goals as goal

pub returns-clause-sent : goal.returns-clause-sent
returns-clause-sent g c = search rules

pub returns-clause-sums : goal.returns-clause-sums
returns-clause-sums g c = search rules

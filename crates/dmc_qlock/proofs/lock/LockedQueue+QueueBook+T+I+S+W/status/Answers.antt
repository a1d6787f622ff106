-- Replied here, so that a wrong body fails here.
use Rattle.std.proofs.Common.{rules}
use Rattle.dmc_qlock.proofs.lock.LockedQueue+QueueBook+T+I+S+W.status.Goals as goal

pub returns-clause-held : goal.returns-clause-held
returns-clause-held g c = search rules

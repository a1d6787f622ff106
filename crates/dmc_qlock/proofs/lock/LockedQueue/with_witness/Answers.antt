-- Replied here, so that a wrong body fails here.
use Rattle.std.proofs.Common.{rules}
use Rattle.dmc_qlock.proofs.lock.LockedQueue.with_witness.Goals as goal

pub returns : goal.returns
returns g c = search rules

-- Replied here, so that a wrong body fails here.
use Rattle.std.proofs.Common.{rules}
use Rattle.dmc_qlock.proofs.lock.LockedQueue+QueueBook+T+I+S+W.submit.Goals as goal

pub returns-then-wakes-clause-its_server : goal.returns-then-wakes-clause-its_server
returns-then-wakes-clause-its_server g c = search rules

pub returns-then-wakes-clause-stranger : goal.returns-then-wakes-clause-stranger
returns-then-wakes-clause-stranger g c = search rules

pub returns-else-wakes-clause-its_server : goal.returns-else-wakes-clause-its_server
returns-else-wakes-clause-its_server g c = search rules

pub returns-else-wakes-clause-stranger : goal.returns-else-wakes-clause-stranger
returns-else-wakes-clause-stranger g c = search rules

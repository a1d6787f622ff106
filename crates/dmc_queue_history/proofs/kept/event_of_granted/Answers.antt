-- Answered here, so that a wrong body fails here.
use Rattle.std.proofs.Common.{rules}
use Rattle.dmc_queue_history.proofs.kept.event_of_granted.Goals as goal

pub returns : goal.returns
returns g c = search rules

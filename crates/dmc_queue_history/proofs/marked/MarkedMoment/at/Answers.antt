-- Answered here, so that a wrong body fails here.
use Rattle.std.proofs.Common.{rules}
use Rattle.dmc_queue_history.proofs.marked.MarkedMoment.at.Goals as goal

pub returns : goal.returns
returns c = search rules

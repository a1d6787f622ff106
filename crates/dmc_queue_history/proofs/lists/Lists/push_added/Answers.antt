-- Answered here, so that a wrong body fails here.
use Rattle.std.proofs.Common.{rules}
use Rattle.dmc_queue_history.proofs.lists.Lists.push_added.Goals as goal

pub returns-in-None : goal.returns-in-None
returns-in-None g c = search rules

pub returns-in_default : goal.returns-in_default
returns-in_default g c = search rules

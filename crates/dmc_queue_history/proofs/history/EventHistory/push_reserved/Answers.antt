-- Answered here, so that a wrong body fails here.
use Rattle.std.proofs.Common.{rules}
use Rattle.dmc_queue_history.proofs.history.EventHistory.push_reserved.Goals as goal

pub returns-in-Tagged-clause-events : goal.returns-in-Tagged-clause-events
returns-in-Tagged-clause-events g c = search rules

pub returns-in-Granted-clause-events : goal.returns-in-Granted-clause-events
returns-in-Granted-clause-events g c = search rules

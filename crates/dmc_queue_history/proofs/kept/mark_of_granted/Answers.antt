-- Answered here, so that a wrong body fails here.
use Rattle.std.proofs.Common.{rules}
use Rattle.dmc_queue_history.proofs.kept.mark_of_granted.Goals as goal

pub returns-in-Priority-true-clause-beyond : goal.returns-in-Priority-true-clause-beyond
returns-in-Priority-true-clause-beyond c = search rules

-- Answered here, so that a wrong body fails here.
use Rattle.std.proofs.Common.{rules}
use Rattle.dmc_settle.proofs.clients.add_pair.Goals as goal

pub overflow_add-result : goal.overflow_add-result
overflow_add-result g c = search rules

pub returns-clause-value : goal.returns-clause-value
returns-clause-value g c = search rules

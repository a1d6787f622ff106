-- Answered here, so that a wrong body fails here.
use Rattle.std.proofs.Common.{rules}
use Rattle.dmc_types.proofs.config.QueueConfig.erase_age.Goals as goal

pub returns-clause-value : goal.returns-clause-value
returns-clause-value c = search rules

-- Answered here, so that a wrong body fails here.
use Rattle.std.proofs.Common.{rules}
use Rattle.dmc_text.proofs.watched.read_once.Goals as goal

pub returns-in_default-clause-retried : goal.returns-in_default-clause-retried
returns-in_default-clause-retried g c = search rules

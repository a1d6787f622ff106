-- Answered here, so that a wrong body fails here.
use Rattle.std.proofs.Common.{rules}
use Rattle.dmc_adjust.proofs.adjustment.shift_for.Goals as goal

pub returns-clause-value : goal.returns-clause-value
returns-clause-value g c = search rules

pub returns-clause-shift : goal.returns-clause-shift
returns-clause-shift g c = search rules

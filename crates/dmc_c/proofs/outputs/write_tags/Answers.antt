-- Answered here, so that a wrong body fails here.
use Rattle.std.proofs.Common.{rules}
use Rattle.dmc_c.proofs.outputs.write_tags.Goals as goal

pub returns : goal.returns
returns g = search rules

pub returns-2 : goal.returns-2
returns-2 g = search rules

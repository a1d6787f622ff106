-- Answered here, so that a wrong body fails here.
use Rattle.std.proofs.Common.{rules}
use Rattle.dmc_check.proofs.text.write_verdict.Goals as goal

pub returns : goal.returns
returns g c = search rules

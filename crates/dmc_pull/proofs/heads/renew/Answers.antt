-- Answered here, so that a wrong body fails here.
use Rattle.std.proofs.Common.{rules}
use Rattle.dmc_pull.proofs.heads.renew.Goals as goal

pub returns-in-Some : goal.returns-in-Some
returns-in-Some g c = search rules

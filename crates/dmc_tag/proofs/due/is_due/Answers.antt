-- Answered here, so that a wrong body fails here.
use Rattle.std.proofs.Common.{rules}
use Rattle.dmc_tag.proofs.due.is_due.Goals as goal

pub returns-in-Some : goal.returns-in-Some
returns-in-Some g c = search rules

-- Answered here, so that a wrong body fails here.
use Rattle.std.proofs.Common.{rules}
use Rattle.dmc_c.proofs.fault.refusal_number.Goals as goal

pub returns-in-Known : goal.returns-in-Known
returns-in-Known g = search rules

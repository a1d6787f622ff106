-- Answered here, so that a wrong body fails here.
use Rattle.std.proofs.Common.{rules}
use Rattle.dmc_text.proofs.write.phase_text.Goals as goal

pub returns-then-beyond : goal.returns-then-beyond
returns-then-beyond g = search rules

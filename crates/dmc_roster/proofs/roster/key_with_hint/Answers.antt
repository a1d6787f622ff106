-- Answered here, so that a wrong body fails here.
use Rattle.std.proofs.Common.{rules}
use Rattle.dmc_roster.proofs.roster.key_with_hint.Goals as goal

pub returns-then-eq : goal.returns-then-eq
returns-then-eq c = search rules

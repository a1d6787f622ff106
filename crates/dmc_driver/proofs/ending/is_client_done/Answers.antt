-- Answered here, so that a wrong body fails here.
use Rattle.std.proofs.Common.{rules}
use Rattle.dmc_driver.proofs.ending.is_client_done.Goals as goal

pub returns-then-row-eq0-3 : goal.returns-then-row-eq0-3
returns-then-row-eq0-3 g = search rules

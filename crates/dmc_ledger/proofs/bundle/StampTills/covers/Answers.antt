-- Answered here, so that a wrong body fails here.
use Rattle.std.proofs.Common.{rules}
use Rattle.dmc_ledger.proofs.bundle.StampTills.covers.Goals as goal

pub returns-then-amount-from : goal.returns-then-amount-from
returns-then-amount-from g c = search rules

-- Answered here, so that a wrong body fails here.
use Rattle.std.proofs.Common.{rules}
use Rattle.dmc_book.proofs.opening.name_all.Goals as goal

pub returns-clause-once : goal.returns-clause-once
returns-clause-once g c = search rules

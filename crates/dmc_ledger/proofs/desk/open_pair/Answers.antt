-- Answered here, so that a wrong body fails here.
use Rattle.std.proofs.Common.{rules}
use Rattle.dmc_ledger.proofs.desk.open_pair.Goals as goal

pub returns-clause-server_desk : goal.returns-clause-server_desk
returns-clause-server_desk g c = search rules

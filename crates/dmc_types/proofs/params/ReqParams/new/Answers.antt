-- Answered here, so that a wrong body fails here.
use Rattle.std.proofs.Common.{rules}
use Rattle.dmc_types.proofs.params.ReqParams.new.Goals as goal

pub returns-then-rho-delta-clause-ok : goal.returns-then-rho-delta-clause-ok
returns-then-rho-delta-clause-ok c = search rules

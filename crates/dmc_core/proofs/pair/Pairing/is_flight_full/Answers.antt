-- Answered here, so that a wrong body fails here.
use Rattle.std.proofs.Common.{rules}
use Rattle.dmc_core.proofs.pair.Pairing.is_flight_full.Goals as goal

pub returns : goal.returns
returns g = search rules

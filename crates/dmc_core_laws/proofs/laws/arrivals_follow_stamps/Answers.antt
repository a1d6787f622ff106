use Rattle.dmc_core_laws.proofs.Stamped.{arrivals_follow}
use Rattle.dmc_core_laws.proofs.laws.arrivals_follow_stamps.Goals as goal

pub returns : goal.returns
returns g c = arrivals_follow g.T.Tag.ops

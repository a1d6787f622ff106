use Rattle.dmc_core_laws.proofs.Histories.{histories_replay}
use Rattle.dmc_core_laws.proofs.laws.histories_replay.Goals as goal

pub returns : goal.returns
returns g c = histories_replay g.T.Tag.ops

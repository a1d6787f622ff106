use Rattle.dmc_tag.proofs.ForCallers.{plus_commutes}
use Rattle.dmc_tag.proofs.laws.plus_commutes.Goals as goal

pub returns : goal.returns
returns g c = plus_commutes g.T.Tag.ops g.T.Tag.fraction g.T.Tag.is_value g.met.T.Tag.exact

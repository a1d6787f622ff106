use Rattle.dmc_tag.proofs.ForCallers.{plus_keeps_order}
use Rattle.dmc_tag.proofs.laws.plus_keeps_order.Goals as goal

pub returns : goal.returns
returns g c = plus_keeps_order g.T.Tag.ops g.T.Tag.fraction g.T.Tag.is_value g.met.T.Tag.exact

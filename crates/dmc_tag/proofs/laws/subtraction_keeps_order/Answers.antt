use Rattle.dmc_tag.proofs.ForCallers.{minus_keeps_order}
use Rattle.dmc_tag.proofs.laws.subtraction_keeps_order.Goals as goal

pub returns : goal.returns
returns g c = minus_keeps_order g.T.Tag.ops g.T.Tag.fraction g.T.Tag.is_value g.met.T.Tag.exact

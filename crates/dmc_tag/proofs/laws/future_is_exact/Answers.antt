use Rattle.dmc_tag.proofs.ForCallers.{tag_order, future_is_exact}
use Rattle.dmc_tag.proofs.laws.future_is_exact.Goals as goal

pub returns : goal.returns
returns g c =
    let order = tag_order g.T.Ord.cmp g.T.Tag.ops.compare g.met.T.Ord.total g.met.T.Tag.compares in
    future_is_exact g.T.Tag.ops g.T.Tag.fraction g.T.Tag.is_value g.met.T.Tag.exact order

use Rattle.dmc_tag.proofs.ForCallers.{tag_order, grants_what_is_queued}
use Rattle.dmc_tag.proofs.laws.grants_what_is_queued.Goals as goal

pub returns : goal.returns
returns g c =
    let order = tag_order g.T.Ord.cmp g.T.Tag.ops.compare g.met.T.Ord.total g.met.T.Tag.compares in
    grants_what_is_queued g.T.Tag.ops g.T.Tag.fraction g.T.Tag.is_value g.met.T.Tag.exact order

use Rattle.dmc_tag.proofs.ForCallers.{tag_order, next_tags_follow}
use Rattle.dmc_tag.proofs.laws.next_tags_follow.Goals as goal

pub returns : goal.returns
returns g c =
    let order = tag_order g.T.Ord.cmp g.T.Tag.ops.compare g.met.T.Ord.total g.met.T.Tag.compares in
    next_tags_follow g.T.Tag.ops g.T.Tag.fraction g.T.Tag.is_value g.met.T.Tag.exact order

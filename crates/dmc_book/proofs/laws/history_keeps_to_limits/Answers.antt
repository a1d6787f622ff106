use Rattle.std.proofs.Common.{◌<◌}
use Rattle.dmc_tag.proofs.ForCallers.{tag_order}
use Rattle.dmc_history_laws.proofs.ForCallers.{holds_limit}
use Rattle.dmc_book.proofs.laws.history_keeps_to_limits.Goals as goal

pub returns : goal.returns
returns g c =
    let order = tag_order g.T.Ord.cmp g.T.Tag.ops.compare g.met.T.Ord.total g.met.T.Tag.compares in
    let here = c.book.inside in
    let some : 0 < here.config.hz = rw c.hz.ensures.value at c.hz.ensures.some in
    rw (← c.book.view_is) (holds_limit g.T.Tag.ops g.T.Tag.fraction g.T.Tag.is_value g.met.T.Tag.exact order here.config some _ c.book.invariant.replaying)

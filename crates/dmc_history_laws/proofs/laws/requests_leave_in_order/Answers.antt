use Rattle.dmc_tag.proofs.ForCallers.{tag_order}
use Rattle.dmc_history_laws.proofs.ForCallers.{in_order_of_arrival, in_order_if_never_cancelled}
use Rattle.dmc_history_laws.proofs.laws.requests_leave_in_order.Goals as goal

pub returns-clause-waiting : goal.returns-clause-waiting
returns-clause-waiting g c =
    let order = tag_order g.T.Ord.cmp g.T.Tag.ops.compare g.met.T.Ord.total g.met.T.Tag.compares in
    in_order_of_arrival g.T.Tag.ops g.T.Tag.fraction g.T.Tag.is_value g.met.T.Tag.exact order

pub returns-clause-never_cancelled : goal.returns-clause-never_cancelled
returns-clause-never_cancelled g c =
    let order = tag_order g.T.Ord.cmp g.T.Tag.ops.compare g.met.T.Ord.total g.met.T.Tag.compares in
    in_order_if_never_cancelled g.T.Tag.ops g.T.Tag.fraction g.T.Tag.is_value g.met.T.Tag.exact order

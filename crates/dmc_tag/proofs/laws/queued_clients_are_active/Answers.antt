use Rattle.dmc_tag.proofs.ForCallers.{tag_order, queued_clients_are_active, step_keeps_active}
use Rattle.dmc_tag.proofs.laws.queued_clients_are_active.Goals as goal

pub returns-clause-history : goal.returns-clause-history
returns-clause-history g c =
    let order = tag_order g.T.Ord.cmp g.T.Tag.ops.compare g.met.T.Ord.total g.met.T.Tag.compares in
    queued_clients_are_active g.T.Tag.ops g.T.Tag.fraction g.T.Tag.is_value g.met.T.Tag.exact order

pub returns-clause-one_step : goal.returns-clause-one_step
returns-clause-one_step g c =
    let order = tag_order g.T.Ord.cmp g.T.Tag.ops.compare g.met.T.Ord.total g.met.T.Tag.compares in
    step_keeps_active g.T.Tag.ops g.T.Tag.fraction g.T.Tag.is_value g.met.T.Tag.exact order

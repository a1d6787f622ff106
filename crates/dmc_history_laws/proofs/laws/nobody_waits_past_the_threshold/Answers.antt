use Rattle.dmc_tag.proofs.ForCallers.{tag_order}
use Rattle.dmc_history_laws.proofs.ForCallers.{added_in_time, queued_in_time, future_in_time}
use Rattle.dmc_history_laws.proofs.laws.nobody_waits_past_the_threshold.Goals as goal

pub returns-clause-added : goal.returns-clause-added
returns-clause-added g c =
    let order = tag_order g.T.Ord.cmp g.T.Tag.ops.compare g.met.T.Ord.total g.met.T.Tag.compares in
    added_in_time g.T.Tag.ops g.T.Tag.fraction g.T.Tag.is_value g.met.T.Tag.exact order

pub returns-clause-queued : goal.returns-clause-queued
returns-clause-queued g c =
    let order = tag_order g.T.Ord.cmp g.T.Tag.ops.compare g.met.T.Ord.total g.met.T.Tag.compares in
    queued_in_time g.T.Tag.ops g.T.Tag.fraction g.T.Tag.is_value g.met.T.Tag.exact order

pub returns-clause-future : goal.returns-clause-future
returns-clause-future g c =
    let order = tag_order g.T.Ord.cmp g.T.Tag.ops.compare g.met.T.Ord.total g.met.T.Tag.compares in
    future_in_time g.T.Tag.ops g.T.Tag.fraction g.T.Tag.is_value g.met.T.Tag.exact order

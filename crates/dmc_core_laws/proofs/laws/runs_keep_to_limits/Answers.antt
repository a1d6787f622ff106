use Rattle.dmc_tag.proofs.ForCallers.{tag_order}
use Rattle.dmc_core_laws.proofs.Bounds.{limit_over_runs, limit_over_runs_with_cancels}
use Rattle.dmc_core_laws.proofs.laws.runs_keep_to_limits.Goals as goal

pub returns-clause-with_cancels : goal.returns-clause-with_cancels
returns-clause-with_cancels g c =
    let order = tag_order g.T.Ord.cmp g.T.Tag.ops.compare g.met.T.Ord.total g.met.T.Tag.compares in
    limit_over_runs_with_cancels g.T.Tag.ops g.T.Tag.fraction g.T.Tag.is_value g.met.T.Tag.exact order

pub returns-clause-never_cancelled : goal.returns-clause-never_cancelled
returns-clause-never_cancelled g c =
    let order = tag_order g.T.Ord.cmp g.T.Tag.ops.compare g.met.T.Ord.total g.met.T.Tag.compares in
    limit_over_runs g.T.Tag.ops g.T.Tag.fraction g.T.Tag.is_value g.met.T.Tag.exact order

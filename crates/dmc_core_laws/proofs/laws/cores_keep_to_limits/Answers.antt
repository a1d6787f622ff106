use Rattle.dmc_pull.specs.Queue.{state_of}
use Rattle.dmc_tag.proofs.ForCallers.{tag_order}
use Rattle.dmc_core_laws.proofs.Steps.{limit_of_cores, limit_of_cores_with_cancels}
use Rattle.dmc_core_laws.proofs.laws.cores_keep_to_limits.Goals as goal

pub returns-clause-with_cancels : goal.returns-clause-with_cancels
returns-clause-with_cancels g c =
    let order = tag_order g.T.Ord.cmp g.T.Tag.ops.compare g.met.T.Ord.total g.met.T.Tag.compares in
    limit_of_cores_with_cancels g.T.Tag.ops (λ q. state_of q) g.T.Tag.fraction g.T.Tag.is_value g.met.T.Tag.exact order

pub returns-clause-never_cancelled : goal.returns-clause-never_cancelled
returns-clause-never_cancelled g c =
    let order = tag_order g.T.Ord.cmp g.T.Tag.ops.compare g.met.T.Ord.total g.met.T.Tag.compares in
    limit_of_cores g.T.Tag.ops (λ q. state_of q) g.T.Tag.fraction g.T.Tag.is_value g.met.T.Tag.exact order

use Rattle.std.proofs.Common.{sym, subst, arith}
use Rattle.dmc_tag.proofs.ForCallers.{moments_are_values}
use Rattle.dmc_pull.specs.Queue.{AreValues}
use Rattle.dmc_pull.proofs.Common.Kept.{empty_is}
use Rattle.dmc_pull.proofs.Common.Within.{none_within}
use Rattle.dmc_pull.proofs.queue.PullQueue.new.Goals as goal

pub invariant_of-result : goal.invariant_of-result
invariant_of-result g c =
    let zero = moments_are_values g.T.Tag.ops g.T.Tag.fraction g.T.Tag.is_value g.met.T.Tag.exact 0 (omega arith) in
    let values = subst (AreValues g.T.Tag.fraction g.T.Tag.is_value) (sym c.no_progress.ensures) (record { virtual_time = zero; furthest = zero }) in (
      empty_is g.T.Tag.ops g.T.Tag.fraction g.T.Tag.is_value c.args.config c.new.result c.new-2.result c.zero.result c.no_progress.result c.new.ensures c.new-2.ensures values,
      none_within c.first_range.result c.first_range.ensures c.new.result.entries c.new.ensures,
    )

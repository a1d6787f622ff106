use Rattle.std.proofs.Common.{arith}
use Rattle.dmc_queue_history.specs.Kept.{kept_of}
use Rattle.dmc_queue_history.proofs.Adding.{length-events_at}
use Rattle.dmc_queue_history.proofs.history.EventHistory.len.Goals as goal

pub returns-clause-value : goal.returns-clause-value
returns-clause-value g c =
    rw (← c.self.view_is, length-events_at g.T.Tag.ops (kept_of c.self.inside.lists) c.self.inside.places.events c.self.invariant.found) c.len.ensures.value

pub returns-clause-bound : goal.returns-clause-bound
returns-clause-bound g c = rw (← c.self.view_is) (omega (arith, c.self.invariant.within, c.len.ensures.value))

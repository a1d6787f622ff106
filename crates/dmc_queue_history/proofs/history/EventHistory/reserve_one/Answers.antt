use Rattle.std.proofs.Common.{arith, rules}
use Rattle.dmc_queue_history.specs.Kept.{kept_of}
use Rattle.dmc_queue_history.proofs.Adding.{length-events_at}
use Rattle.dmc_queue_history.proofs.history.EventHistory.reserve_one.Goals as goal

pub returns-then-self-gt0-clause-fewer : goal.returns-then-self-gt0-clause-fewer
returns-then-self-gt0-clause-fewer g c =
    rw (← c.self.view_is, length-events_at g.T.Tag.ops (kept_of c.self.inside.lists) c.self.inside.places.events c.self.invariant.found) (omega (arith, c.self.invariant.within))

pub returns-then-self-gt0-clause-full : goal.returns-then-self-gt0-clause-full
returns-then-self-gt0-clause-full g c =
    rw (← c.self.view_is, length-events_at g.T.Tag.ops (kept_of c.self.inside.lists) c.self.inside.places.events c.self.invariant.found)
    (λ h. absurd (search rules), λ e. absurd (omega (arith, c.self.invariant.within)))

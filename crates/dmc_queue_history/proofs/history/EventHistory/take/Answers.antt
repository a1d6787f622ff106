use Rattle.std.proofs.Common.{◌≡◌, ◌≤◌, ℕ, arith, ap, sym, subst}
use Rattle.dmc_types.specs.Limits.{max_events}
use Rattle.dmc_queue_history.specs.Kept.{HaveMost, kept_of}
use Rattle.dmc_queue_history.proofs.Adding.{length-events_at, kept-empty}
use Rattle.dmc_queue_history.proofs.history.EventHistory.take.Goals as goal

pub invariant_of-self : goal.invariant_of-self
invariant_of-self g c =
    let kept = c.self.invariant in
    let most : c.take.new.self.most ≡ c.self.inside.places.most = ap (λ log. log.most) c.take.ensures.empty in
    kept-empty g.T.Tag.ops c.take-2.new.self c.take.new.self c.take-2.ensures.empty
    (subst (λ (n : ℕ). HaveMost c.take-2.new.self n) (sym most) (c.take-2.ensures.most c.self.inside.places.most kept.most))
    (ap (λ log. log.events) c.take.ensures.empty)
    (subst (λ (n : ℕ). n ≤ max_events) (sym most) kept.limit)

pub returns-clause-within : goal.returns-clause-within
returns-clause-within g c =
    rw (c.take-2.ensures.value, c.take.ensures.value, length-events_at g.T.Tag.ops (kept_of c.self.inside.lists) c.self.inside.places.events c.self.invariant.found) (omega (arith, c.self.invariant.within))

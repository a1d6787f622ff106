use Rattle.dmc_queue_history.proofs.Adding.{events_at-push, kept-push}
use Rattle.dmc_queue_history.proofs.history.EventHistory.push_added.Goals as goal

pub invariant_of-self : goal.invariant_of-self
invariant_of-self g c =
    let reserved = rw (← c.self.view_is) at c.requires in
    kept-push g.T.Tag.ops _ _ _ _ _ _ _ c.self.invariant c.push_added-place.ensures c.push_reserved.ensures.events c.push_reserved.ensures.most c.push_reserved.ensures.used reserved

pub returns-clause-events : goal.returns-clause-events
returns-clause-events g c =
    rw (← c.self.view_is) (events_at-push g.T.Tag.ops _ _ _ _ _ _ c.self.invariant.found c.push_added-place.ensures c.push_reserved.ensures.events)

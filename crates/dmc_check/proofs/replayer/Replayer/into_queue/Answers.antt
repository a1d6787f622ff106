use Rattle.std.proofs.Common.{◌≡◌, sym, subst, Option, Some, None, refl}
use Rattle.std.specs.Prelude.{IfSome, IsSome}
use Rattle.dmc_tag.specs.Replay.{after}
use Rattle.dmc_pull.specs.Queue.{state_of}
use Rattle.dmc_check.proofs.VerdictLemmas.{no_difference_yet, queue_holds}
use Rattle.dmc_check.proofs.replayer.Replayer.into_queue.Goals as goal

pub returns-clause-some : goal.returns-clause-some
returns-clause-some g c =
    let here = c.self.inside in
    let exactly = no_difference_yet g.T.Tag.ops here.config here.events.items here.replay c.self.invariant in
    rw (← c.self.view_is) (λ some. exactly.0 (c.into_queue.ensures.some.0 some), λ replaying. c.into_queue.ensures.some.1 (exactly.1 replaying))

-- what is released is the queue, if anything is
if_queue : {Q : Type 0} (P : Q → Type 0) (q : Q) (o : Option Q) → IfSome o (λ x. x ≡ q) → (IsSome o → P q) → IfSome o P
if_queue P q None same holds = tt
if_queue P q (Some x) same holds = subst P (sym same) (holds refl)

pub returns-clause-state : goal.returns-clause-state
returns-clause-state g c =
    let here = c.self.inside in
    rw (← c.self.view_is) (if_queue (λ queue. state_of queue ≡ after g.T.Tag.ops here.config here.events.items) here.replay.queue c.into_queue.result c.into_queue.ensures.queue
    (λ some. queue_holds g.T.Tag.ops here.config here.events.items here.replay c.self.invariant (c.into_queue.ensures.some.0 some)))

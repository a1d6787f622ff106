use Rattle.std.proofs.Common.{◌≡◌, ◌+◌, List, [], ◌∷◌, ◌++◌, sym, ap, ◌∙◌, arith}
use Rattle.std.proofs.lemmas.List.FromFn.{map-range_with_len_more}
use Rattle.dmc_driver_threads.specs.internal.Desks.{QueueDesksValue, queue_of, queues_of}
use Rattle.dmc_driver_threads.proofs.opening.Opening.no_desks.Goals as goal

pub loop-server-preserved : goal.loop-server-preserved
loop-server-preserved g c =
    let n = c.loop-server.server in
    let at : 0 + n ≡ n = omega arith in
    c.in_ok-push.ensures.items ∙ ap (λ (qs : List QueueDesksValue). qs ++ c.in_ok-queue.queue ∷ []) c.loop-server.invariant
    ∙ ap (λ (q : QueueDesksValue). queues_of n [] ++ q ∷ []) c.in_ok-queue.ensures ∙ sym (map-range_with_len_more (queue_of []) 0 n n at)

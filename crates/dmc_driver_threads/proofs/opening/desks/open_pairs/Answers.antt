use Rattle.std.proofs.Common.{◌≡◌, ℕ, ◌<◌, ◌≤◌, List, ◌++◌, drop, get_or, length, map, set, sym, ap, ◌∙◌, arith}
use Rattle.std.specs.List.{range_with_len}
use Rattle.std.proofs.Math.Seq.{map-set_same}
use Rattle.std.proofs.lemmas.List.{append-nil, get_or_default, length-set, take_all, drop_all}
use Rattle.std.proofs.lemmas.List.Edits.{map_over_more}
use Rattle.dmc_driver_threads.specs.internal.Desks.{QueueDesksValue, TrackerDesksValue, with_client, with_server}
use Rattle.dmc_driver_threads.proofs.DeskLemmas.{server_at}
use Rattle.dmc_driver_threads.proofs.opening.desks.open_pairs.Goals as goal

pub open_next-requires-clause-server : goal.open_next-requires-clause-server
open_next-requires-clause-server g c =
    let i = c.loop-queue.queue-index in
    server_at c.loop-queue.queues i c.queue-item.result c.loop-queue.invariant.servers (omega arith)
    ∙ sym (ap (λ (s : TrackerDesksValue). s.servers) c.loop-queue.invariant.sides)

pub loop-queue-preserved : goal.loop-queue-preserved
loop-queue-preserved g c =
    let i = c.loop-queue.queue-index in
    let old = c.args.queues.now in
    let now = c.loop-queue.queues in
    let here : i < length now = omega arith in
    let item : QueueDesksValue = get_or now i c.queue-item.result in
    let new = c.open_next.new.queue in
    let inv = c.loop-queue.invariant in
    let server : QueueDesksValue → ℕ = λ q. q.server in
    let new_is : new ≡ with_client c.args.client.0 item =
    c.in_ok-open_next.ensures.queue ∙ ap (λ (s : TrackerDesksValue). with_client s.client item) inv.sides in
    record {
      queues = ap (λ (q : QueueDesksValue). set now i q) new_is ∙ map_over_more (with_client c.args.client.0) old now i item (omega arith) inv.queues
          (get_or_default now i c.queue-item.result item here);
      servers = map-set_same server now i new c.queue-item.result (ap server new_is) ∙ inv.servers ∙ ap (range_with_len 0) (sym (length-set now i new));
      sides = c.in_ok-open_next.ensures.sides ∙ ap with_server inv.sides;
      left = omega (arith, c.in_ok-open_next.ensures.left, inv.left);
    }

pub returns-clause-queues : goal.returns-clause-queues
returns-clause-queues g c =
    let n = c.loop-queue.queue-index in
    let old = c.args.queues.now in
    let f = with_client c.args.client.0 in
    let end : length old ≤ n = omega arith in
    c.loop-queue.invariant.queues ∙ ap (λ (qs : List QueueDesksValue). map f qs ++ drop n old) (take_all n old end)
    ∙ ap (λ (qs : List QueueDesksValue). map f old ++ qs) (drop_all n old end) ∙ append-nil (map f old)

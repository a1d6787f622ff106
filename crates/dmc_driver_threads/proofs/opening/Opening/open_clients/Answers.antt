use Rattle.std.proofs.Common.{◌≡◌, ◌*◌, ◌<◌, ◌≤◌, List, length, map, get_or, sym, ap, ◌∙◌, arith}
use Rattle.std.specs.List.{range_with_len}
use Rattle.dmc_ledger.specs.Bundles.{books_per_pair}
use Rattle.dmc_scene.specs.SceneValue.{ClientValue}
use Rattle.dmc_driver_threads.specs.internal.Desks.{QueueDesksValue}
use Rattle.dmc_driver_threads.proofs.DeskLemmas.{next_client, one_turn, servers_of}
use Rattle.dmc_driver_threads.proofs.opening.Opening.open_clients.Goals as goal

pub open_client-requires-clause-servers : goal.open_client-requires-clause-servers
open_client-requires-clause-servers g c =
    let n = length c.args.queues.now in
    let same : length c.loop-client.queues ≡ n = omega arith in
    ap (map (λ (q : QueueDesksValue). q.server)) c.loop-client.invariant.queues ∙ servers_of _ (range_with_len 0 n) ∙ ap (range_with_len 0) (sym same)

pub open_client-requires-clause-left : goal.open_client-requires-clause-left
open_client-requires-clause-left g c =
    let n = length c.args.queues.now in
    let cs = c.args.self.now.scene.now.clients in
    let i = c.loop-client.client-index in
    let same : length c.loop-client.queues ≡ n = omega arith in
    let within : i < length cs = omega (arith, ap (λ (xs : List ClientValue). length xs) c.clients-client-items.ensures.value) in
    let each : books_per_pair * n ≤ c.loop-client.mint.left = one_turn i (length cs) (books_per_pair * n) c.loop-client.mint.left c.args.mint.now.left within c.loop-client.invariant.left c.requires.left in
    omega (arith, same, each)

pub loop-client-preserved : goal.loop-client-preserved
loop-client-preserved g c =
    let n = length c.args.queues.now in
    let cs = c.args.self.now.scene.now.clients in
    let i = c.loop-client.client-index in
    let x = c.client-item.result in
    let inv = c.loop-client.invariant in
    let value = c.clients-client-items.ensures.value in
    let same : length c.loop-client.queues ≡ n = omega arith in
    let within : i < length cs = omega (arith, ap (λ (xs : List ClientValue). length xs) value) in
    let is : x ≡ get_or cs i x = c.client-item.is ∙ ap (λ (xs : List ClientValue). get_or xs i x) value in
    record {
      queues = next_client n cs i x c.loop-client.queues c.open_client.new.queues within is inv.queues c.in_ok-open_client.ensures.queues;
      left = omega (arith, c.in_ok-open_client.ensures.left, inv.left, same);
      jobs = omega (arith, c.in_ok-open_client.ensures.jobs, inv.jobs);
      queues_kept = c.in_ok-open_client.ensures.queues_kept ∙ inv.queues_kept;
      trackers = omega (arith, c.in_ok-open_client.ensures.trackers, inv.trackers);
    }

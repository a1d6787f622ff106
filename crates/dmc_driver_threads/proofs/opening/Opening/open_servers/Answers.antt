use Rattle.std.proofs.Common.{◌≡◌, ℕ, ◌+◌, List, [], ◌∷◌, ◌++◌, length, map, refl, sym, ap, ◌∙◌, arith}
use Rattle.std.specs.List.{range_with_len}
use Rattle.dmc_settle.specs.declared.report.ServerReport.{ServerReport}
use Rattle.dmc_driver_threads.specs.internal.Books.{books_of_server}
use Rattle.dmc_driver_threads.specs.internal.Desks.{QueueDesksValue, ids_of, queue_of}
use Rattle.dmc_driver_threads.proofs.DeskLemmas.{as_many_queues, next_server, one_turn}
use Rattle.dmc_driver_threads.proofs.RowLemmas.{range_more}
use Rattle.dmc_driver_threads.proofs.opening.Opening.open_servers.Given.{Over}
use Rattle.dmc_driver_threads.proofs.opening.Opening.open_servers.Goals.{After-remove-next}
use Rattle.dmc_driver_threads.proofs.opening.Opening.open_servers.Goals as goal

-- the desks of this turn, and those that are left
next : (g : Over) (c : After-remove-next g) → (c.remove-next.result ≡ queue_of (ids_of c.args.self.now.scene.now.clients) c.loop.counter)
    × (c.remove-next.new.self.items ≡ map (queue_of (ids_of c.args.self.now.scene.now.clients)) (range_with_len (c.loop.counter + 1) (length c.remove-next.new.self.items)))
next g c =
    let ids = ids_of c.args.self.now.scene.now.clients in
    let found = next_server ids c.loop.counter c.loop.desks.items c.remove-next.result (omega arith) c.loop.invariant.desks c.remove-next.ensures.value in
    let items = c.remove-next.ensures.items in
    (found.0, items ∙ found.1 ∙ ap (λ (qs : List QueueDesksValue). map (queue_of ids) (range_with_len (c.loop.counter + 1) (length qs))) (sym items))

pub loop-init : goal.loop-init
loop-init g c =
    let ids = ids_of c.args.self.now.scene.now.clients in
    let servers = c.args.self.now.scene.now.servers in
    let long : length c.args.desks.items ≡ servers = ap length c.requires.desks ∙ as_many_queues servers ids in
    record {
      desks = c.requires.desks ∙ ap (λ (n : ℕ). map (queue_of ids) (range_with_len 0 n)) (sym long);
      rest = omega (arith, long);
      left = omega arith;
      jobs = c.requires.jobs;
      rows = ap (map (λ (r : ServerReport g.row.T.Denot). r.server.0)) c.requires.rows;
      queues = omega arith;
      trackers = refl;
      clients = refl;
    }

pub open_server-requires-clause-desks : goal.open_server-requires-clause-desks
open_server-requires-clause-desks g c = ap (λ (q : QueueDesksValue). q.clients) (next g (goal.at.open_server-requires-clause-desks g c).After-remove-next).0

pub open_server-requires-clause-few : goal.open_server-requires-clause-few
open_server-requires-clause-few g c =
    let server = ap (λ (q : QueueDesksValue). q.server) (next g (goal.at.open_server-requires-clause-few g c).After-remove-next).0 in
    omega (arith, server)

pub open_server-requires-clause-left : goal.open_server-requires-clause-left
open_server-requires-clause-left g c =
    let scene = c.args.self.now.scene.now in
    one_turn c.loop.counter scene.servers (books_of_server scene) c.loop.mint.left c.args.mint.now.left (omega arith) c.loop.invariant.left c.requires.left

pub loop-preserved : goal.loop-preserved
loop-preserved g c =
    let inv = c.loop.invariant in
    let n = c.loop.counter in
    let here = next g (goal.at.loop-preserved g c).After-remove-next in
    let server : c.remove-next.result.server ≡ n = ap (λ (q : QueueDesksValue). q.server) here.0 in
    let from_zero : 0 + n ≡ n = omega arith in
    record {
      desks = here.1;
      rest = omega (arith, inv.rest, c.remove-next.ensures.len);
      left = omega (arith, inv.left, c.in_ok-open_server.ensures.left);
      jobs = c.in_ok-open_server.ensures.jobs ∙ inv.jobs;
      rows = c.in_ok-open_server.ensures.rows ∙ ap (λ (ns : List ℕ). ns ++ c.remove-next.result.server ∷ []) inv.rows
          ∙ ap (λ (k : ℕ). range_with_len 0 n ++ k ∷ []) server ∙ sym (range_more 0 n n from_zero);
      queues = omega (arith, c.in_ok-open_server.ensures.queues, inv.queues);
      trackers = c.in_ok-open_server.ensures.trackers ∙ inv.trackers;
      clients = c.in_ok-open_server.ensures.clients ∙ inv.clients;
    }

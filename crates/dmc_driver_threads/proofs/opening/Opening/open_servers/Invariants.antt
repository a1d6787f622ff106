-- The desks of the next servers are left, and each server up to now has its queue and its row.
use Rattle.std.proofs.Common.{◌≡◌, ◌+◌, ◌*◌, length, map}
use Rattle.std.specs.List.{range_with_len}
use Rattle.dmc_driver_threads.specs.internal.Books.{books_of_server}
use Rattle.dmc_driver_threads.specs.internal.Desks.{ids_of, queue_of}
use Rattle.dmc_driver_threads.proofs.opening.Opening.open_servers.Given as goal

abbrev pub invariant-loop : goal.invariant-loop
invariant-loop g l = record {
  desks : l.desks.items ≡ map (queue_of (ids_of l.self.scene.now.clients)) (range_with_len l.counter (length l.desks.items));
  rest : length l.desks.items + l.counter ≡ l.self.scene.now.servers;
  left : l.mint.left + l.counter * books_of_server l.self.scene.now ≡ l.fn.mint.left;
  jobs : length l.opened.senders.jobs.items ≡ length l.self.scene.now.clients;
  rows : map (λ r. r.server.0) l.opened.remains.report.servers.items ≡ range_with_len 0 l.counter;
  queues : length l.opened.cluster.queues.items ≡ length l.fn.opened.cluster.queues.items + l.counter;
  trackers : length l.opened.cluster.trackers.items ≡ length l.fn.opened.cluster.trackers.items;
  clients : l.opened.remains.report.clients ≡ l.fn.opened.remains.report.clients;
}

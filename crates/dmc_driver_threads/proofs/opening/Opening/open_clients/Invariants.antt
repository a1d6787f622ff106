-- The clients up to now have their desks, and a tracker and a worker each.
use Rattle.std.proofs.Common.{◌≡◌, ◌+◌, ◌*◌, length, take}
use Rattle.dmc_ledger.specs.Bundles.{books_per_pair}
use Rattle.dmc_driver_threads.specs.internal.Desks.{ids_of, queues_of}
use Rattle.dmc_driver_threads.proofs.opening.Opening.open_clients.Given as goal

abbrev pub invariant-loop-client : goal.invariant-loop-client
invariant-loop-client g l = record {
  queues : l.queues ≡ queues_of (length l.fn.queues) (ids_of (take l.client-index l.self.scene.now.clients));
  left : l.mint.left + l.client-index * (books_per_pair * length l.fn.queues) ≡ l.fn.mint.left;
  jobs : length l.senders.jobs.items ≡ l.client-index;
  queues_kept : length l.cluster.queues.items ≡ length l.fn.cluster.queues.items;
  trackers : length l.cluster.trackers.items ≡ length l.fn.cluster.trackers.items + l.client-index;
}

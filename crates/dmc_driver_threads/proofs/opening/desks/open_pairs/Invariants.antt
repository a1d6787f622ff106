-- The queues up to now have one desk more.
use Rattle.std.proofs.Common.{◌≡◌, ◌+◌, ◌*◌, ◌++◌, drop, length, map, take}
use Rattle.std.specs.List.{range_with_len}
use Rattle.dmc_ledger.specs.Bundles.{books_per_pair}
use Rattle.dmc_driver_threads.specs.internal.Desks.{with_client}
use Rattle.dmc_driver_threads.proofs.opening.desks.open_pairs.Given as goal

abbrev pub invariant-loop-queue : goal.invariant-loop-queue
invariant-loop-queue g l = record {
  queues : l.queues ≡ map (with_client l.fn.client.0) (take l.queue-index l.fn.queues) ++ drop l.queue-index l.fn.queues;
  servers : map (λ q. q.server) l.queues ≡ range_with_len 0 (length l.queues);
  sides : l.sides ≡ record { client = l.fn.client.0; servers = l.queue-index };
  left : l.mint.left + books_per_pair * l.queue-index ≡ l.fn.mint.left;
}

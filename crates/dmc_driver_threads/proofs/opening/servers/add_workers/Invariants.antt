use Rattle.std.proofs.Common.{◌≡◌, ◌+◌, length}
use Rattle.dmc_driver_threads.specs.internal.Books.{AreNumbered}
use Rattle.dmc_driver_threads.proofs.opening.servers.add_workers.Given as goal

abbrev pub invariant-loop-worker : goal.invariant-loop-worker
invariant-loop-worker l = record {
  numbered : AreNumbered l.worker l.ids.items;
  as_many : length l.ids.items + l.fn.first ≡ length l.fn.ids.items + l.worker;
}

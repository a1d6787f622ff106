use Rattle.std.proofs.Common.{◌≡◌, []}
use Rattle.dmc_driver_threads.specs.internal.Desks.{queues_of}
use Rattle.dmc_driver_threads.proofs.opening.Opening.no_desks.Given as goal

abbrev pub invariant-loop-server : goal.invariant-loop-server
invariant-loop-server g l = l.queues.items ≡ queues_of l.server []

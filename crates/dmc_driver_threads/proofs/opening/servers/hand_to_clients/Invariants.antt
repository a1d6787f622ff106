use Rattle.std.proofs.Common.{◌≡◌, ◌+◌, length}
use Rattle.dmc_driver_threads.proofs.opening.servers.hand_to_clients.Given as goal

abbrev pub invariant-loop-place : goal.invariant-loop-place
invariant-loop-place g l = length l.passes.items + length l.jobs ≡ length l.fn.passes.items + l.place

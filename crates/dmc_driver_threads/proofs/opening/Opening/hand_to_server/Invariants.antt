use Rattle.std.proofs.Common.{◌≡◌, ◌+◌, length}
use Rattle.dmc_driver_threads.proofs.opening.Opening.hand_to_server.Given as goal

abbrev pub invariant-loop-place : goal.invariant-loop-place
invariant-loop-place g l = length l.passes.items + l.self.scene.now.workers ≡ length l.fn.passes.items + l.place

use Rattle.std.proofs.Common.{◌≡◌, take}
use Rattle.dmc_driver.specs.Stops.{calls_in}
use Rattle.dmc_driver.proofs.stops.count_calls.Given as goal

abbrev pub invariant-loop-i : goal.invariant-loop-i
invariant-loop-i g l = l.calls ≡ calls_in l.worker (take l.i l.history.events)

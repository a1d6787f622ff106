use Rattle.std.proofs.Common.{◌≡◌, ◌++◌}
use Rattle.dmc_driver.specs.Stops.{first_refused}
use Rattle.dmc_driver.proofs.stops.after_refused.Given as goal

abbrev pub invariant-loop-i : goal.invariant-loop-i
invariant-loop-i g l = l.fn.stops ≡ first_refused l.i l.history.events ++ l.rest

use Rattle.std.proofs.Common.{◌≡◌, ◌++◌, take}
use Rattle.dmc_driver.specs.Stops.{causes}
use Rattle.dmc_driver.proofs.stops.after_ends.Given as goal

abbrev pub invariant-loop-end : goal.invariant-loop-end
invariant-loop-end l = l.fn.stops ≡ causes (take l.end-index l.ends) ++ l.rest

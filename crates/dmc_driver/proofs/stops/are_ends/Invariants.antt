use Rattle.std.proofs.Common.{◌≡◌, ℕ, ◌<◌, Option, Some, slice_get}
use Rattle.dmc_settle.specs.declared.report.StopCause.{StopCause}
use Rattle.dmc_driver.specs.Stops.{IsEndAt}
use Rattle.dmc_driver.proofs.stops.are_ends.Given as goal

abbrev pub invariant-loop-k : goal.invariant-loop-k
invariant-loop-k g l = (k : ℕ) (end : Option StopCause) → k < l.k → slice_get l.fn.ends k ≡ Some end
    → IsEndAt l.fn.scene l.fn.server l.fn.history.events k end

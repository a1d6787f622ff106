use Rattle.std.specs.List.{AllWithin}
use Rattle.dmc_tlock.specs.Consistent.{IsConsistent}
use Rattle.dmc_driver.proofs.within.keep_consistent.Given as goal

abbrev pub invariant-loop-tracker : goal.invariant-loop-tracker
invariant-loop-tracker g l = AllWithin IsConsistent l.trackers 0 l.tracker-index

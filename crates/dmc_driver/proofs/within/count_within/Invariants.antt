use Rattle.std.proofs.Common.{◌≤◌}
use Rattle.std.specs.List.{AllWithin}
use Rattle.dmc_tracker.specs.TrackerList.{completions}
use Rattle.dmc_tlock.specs.BookState.{BookState}
use Rattle.dmc_driver.proofs.within.count_within.Given as goal

abbrev pub invariant-loop-tracker : goal.invariant-loop-tracker
invariant-loop-tracker g l = AllWithin (λ (b : BookState). (completions b.events).delta ≤ b.tracker.most) l.trackers 0 l.tracker-index

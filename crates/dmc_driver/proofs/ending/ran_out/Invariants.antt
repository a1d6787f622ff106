use Rattle.std.proofs.Common.{◌≡◌, ℕ, ◌<◌, slice_index_or}
use Rattle.dmc_settle.specs.declared.report.ServerReport.{ServerReport}
use Rattle.dmc_driver.specs.internal.Rows.{RanOutAt}
use Rattle.dmc_driver.proofs.ending.ran_out.Given as goal

abbrev pub invariant-loop-i : goal.invariant-loop-i
invariant-loop-i g l = (k : ℕ) (s : ServerReport g.row.T.Denot) → k < l.i → slice_index_or l.fn.report.servers.items k s ≡ s → RanOutAt s → ⊥

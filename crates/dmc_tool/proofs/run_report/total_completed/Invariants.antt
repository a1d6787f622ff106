-- The sum so far, at most 2^64 for each row.
use Rattle.std.proofs.Common.{◌≡◌, ◌≤◌, ◌*◌, ◌^◌, take}
use Rattle.std.specs.Prelude.{sum_by}
use Rattle.dmc_tool.proofs.run_report.total_completed.Given as goal

abbrev pub invariant-loop-row : goal.invariant-loop-row
invariant-loop-row l = (l.total ≡ sum_by (λ r. r.completed) (take l.row-index l.rows)) × (l.total ≤ l.row-index * 2 ^ 64)

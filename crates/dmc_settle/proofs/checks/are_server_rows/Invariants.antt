use Rattle.std.proofs.Common.{◌≡◌, ℕ, ◌<◌, Some, slice_get}
use Rattle.dmc_settle.specs.declared.report.ServerReport.{ServerReport}
use Rattle.dmc_settle.proofs.checks.are_server_rows.Given as goal

abbrev pub invariant-loop-i : goal.invariant-loop-i
invariant-loop-i g l = (k : ℕ) → k < l.i → (row : ServerReport g.row.T.Denot) → slice_get l.rows k ≡ Some row → row.server.0 ≡ k

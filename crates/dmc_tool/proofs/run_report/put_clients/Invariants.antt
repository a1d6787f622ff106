-- The lines of the rows so far are there.
use Rattle.std.proofs.Common.{◌≡◌, ◌++◌, take}
use Rattle.std.specs.Prelude.{flat_map, string_bytes}
use Rattle.dmc_tool.specs.ReportTexts.{client_line}
use Rattle.dmc_tool.proofs.run_report.put_clients.Given as goal

abbrev pub invariant-loop-row : goal.invariant-loop-row
invariant-loop-row l = string_bytes l.text ≡ string_bytes l.fn.text ++ flat_map (client_line l.with_costs) (take l.row-index l.rows)

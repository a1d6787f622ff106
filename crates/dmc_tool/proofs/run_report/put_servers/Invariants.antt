-- The lines of the rows so far are there.
use Rattle.std.proofs.Common.{◌≡◌, ◌++◌, take}
use Rattle.std.specs.Prelude.{string_bytes}
use Rattle.dmc_tool.specs.ReportTexts.{server_lines}
use Rattle.dmc_tool.proofs.run_report.put_servers.Given as goal

abbrev pub invariant-loop-i : goal.invariant-loop-i
invariant-loop-i g l = string_bytes l.text ≡ string_bytes l.fn.text ++ server_lines (take l.i l.rows) (take l.i l.verdicts)

-- All lines so far are written.
use Rattle.dmc_tool.proofs.ProgressLemmas.{Shown}
use Rattle.dmc_tool.proofs.progress.write_progress.Given as goal

abbrev pub invariant-loop : goal.invariant-loop
invariant-loop g l = Shown g.E.Write.contents l.command l.fn.writer l.writer

-- The events so far are replayed.
use Rattle.std.proofs.Common.{take}
use Rattle.dmc_check.specs.Verdicts.{RepresentsEvents}
use Rattle.dmc_check.proofs.check.check.Given as goal

abbrev pub invariant-loop-index : goal.invariant-loop-index
invariant-loop-index g l = RepresentsEvents g.T.Tag.ops l.fn.config (take l.index (g.L.EventList.events l.history)) l.replay

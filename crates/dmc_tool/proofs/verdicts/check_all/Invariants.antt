-- The verdicts of the servers so far.
use Rattle.std.proofs.Common.{take}
use Rattle.dmc_tool.specs.Verdicts.{AreVerdicts}
use Rattle.dmc_tool.proofs.verdicts.check_all.Given as goal

abbrev pub invariant-loop-i : goal.invariant-loop-i
invariant-loop-i g l = AreVerdicts g.T.Tag.ops l.fn.config (take l.i l.servers) l.verdicts.items

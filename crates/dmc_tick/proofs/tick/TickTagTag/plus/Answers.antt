use Rattle.std.proofs.Common.{arith}
use Rattle.std.proofs.lemmas.Int.{to_z-of_z}
use Rattle.dmc_tick.proofs.tick.TickTagTag.plus.Goals as goal

pub returns-clause-sum : goal.returns-clause-sum
returns-clause-sum c = grind (arith, to_z-of_z, c.new.ensures, c.ticks.ensures, c.ticks-2.ensures)

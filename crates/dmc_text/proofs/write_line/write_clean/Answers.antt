-- The moment is within its limit.
use Rattle.std.proofs.Common.{arith}
use Rattle.dmc_text.proofs.WrittenLemmas.{asked_clean}
use Rattle.dmc_text.proofs.write_line.write_clean.Goals as goal

pub returns-clause-again : goal.returns-clause-again
returns-clause-again g c = asked_clean c.args.at (omega (arith, c.ticks-ticks.ensures.value, c.ticks-ticks.ensures.bound))

-- The id is one of its type.
use Rattle.std.proofs.Common.{arith}
use Rattle.dmc_text.proofs.WrittenLemmas.{asked_drop}
use Rattle.dmc_text.proofs.write_line.write_drop.Goals as goal

pub returns-clause-again : goal.returns-clause-again
returns-clause-again g c = asked_drop c.args.client (omega arith)

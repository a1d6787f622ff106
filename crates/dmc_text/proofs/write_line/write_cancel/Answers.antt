-- Both numbers are those of their types.
use Rattle.std.proofs.Common.{arith}
use Rattle.dmc_text.proofs.WrittenLemmas.{asked_cancel}
use Rattle.dmc_text.proofs.write_line.write_cancel.Goals as goal

pub returns-in-All-clause-again : goal.returns-in-All-clause-again
returns-in-All-clause-again g c = asked_cancel c.args.client c.args.token c.args.counting (omega arith) (omega arith)

pub returns-in-Others-clause-again : goal.returns-in-Others-clause-again
returns-in-Others-clause-again g c = asked_cancel c.args.client c.args.token c.args.counting (omega arith) (omega arith)

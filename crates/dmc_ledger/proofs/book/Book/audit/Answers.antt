-- Answered here, so that a wrong body fails here.
use Rattle.std.proofs.Common.{rules}
use Rattle.dmc_ledger.proofs.book.Book.audit.Goals as goal

pub returns-clause-some : goal.returns-clause-some
returns-clause-some g c = search rules

pub returns-clause-within : goal.returns-clause-within
returns-clause-within g c = search rules

pub returns-clause-alone : goal.returns-clause-alone
returns-clause-alone g c = search rules

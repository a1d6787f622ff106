-- Answered here, so that a wrong body fails here.
use Rattle.std.proofs.Common.{rules}
use Rattle.dmc_ledger.proofs.book.Book.gather.Goals as goal

pub invariant_of-self : goal.invariant_of-self
invariant_of-self g c = search rules

pub returns-clause-gathered : goal.returns-clause-gathered
returns-clause-gathered g c = search rules

pub returns-clause-total : goal.returns-clause-total
returns-clause-total g c = search rules

pub returns-clause-open_tills : goal.returns-clause-open_tills
returns-clause-open_tills g c = search rules

-- Answered here, so that a wrong body fails here.
use Rattle.std.proofs.Common.{rules}
use Rattle.dmc_ledger.proofs.mint.Mint.open_with_list.Goals as goal

pub new-book-requires-clause-number : goal.new-book-requires-clause-number
new-book-requires-clause-number g c = search rules

pub returns-clause-book : goal.returns-clause-book
returns-clause-book g c = search rules

-- Answered here, so that a wrong body fails here.
use Rattle.std.proofs.Common.{rules}
use Rattle.dmc_book.proofs.asking.ask_to_add.Goals as goal

pub returns-in-Ok : goal.returns-in-Ok
returns-in-Ok g c = search rules

pub returns-in-Err-Refused : goal.returns-in-Err-Refused
returns-in-Err-Refused g c = search rules

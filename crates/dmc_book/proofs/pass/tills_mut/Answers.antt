-- Answered here, so that a wrong body fails here.
use Rattle.std.proofs.Common.{rules}
use Rattle.dmc_book.proofs.pass.tills_mut.Goals as goal

pub returns-in-Reservation : goal.returns-in-Reservation
returns-in-Reservation g c = search rules

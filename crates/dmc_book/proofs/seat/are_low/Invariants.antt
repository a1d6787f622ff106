use Rattle.std.proofs.Common.{map, take}
use Rattle.std.specs.List.{AllByRecursion}
use Rattle.dmc_book.specs.BookState.{worker_side}
use Rattle.dmc_book.specs.Moves.{IsOpen}
use Rattle.dmc_book.specs.Rotating.{AreTokensLow}
use Rattle.dmc_book.proofs.seat.are_low.Given as goal

abbrev pub invariant-loop-seat : goal.invariant-loop-seat
invariant-loop-seat g l = AllByRecursion (λ w. IsOpen w → AreTokensLow w.books) (map worker_side (take l.seat-index l.workers))

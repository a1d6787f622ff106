use Rattle.std.proofs.Common.{◌≡◌, ◌≤◌, map, take}
use Rattle.dmc_book.specs.BookState.{worker_side}
use Rattle.dmc_book.specs.Settling.{open_passes}
use Rattle.dmc_book.proofs.settled.open_passes.Given as goal

abbrev pub invariant-loop-seat : goal.invariant-loop-seat
invariant-loop-seat g l = record {
  few : l.count ≤ l.seat-index;
  counted : l.count ≡ open_passes (map worker_side (take l.seat-index l.workers));
}

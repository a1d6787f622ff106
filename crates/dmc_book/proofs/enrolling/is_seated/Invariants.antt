use Rattle.std.proofs.Common.{◌≡◌, false, map, take}
use Rattle.std.specs.Prelude.{◌==◌}
use Rattle.std.specs.List.{AllByRecursion}
use Rattle.dmc_book.specs.BookState.{WorkerSide, worker_side}
use Rattle.dmc_book.proofs.enrolling.is_seated.Given as goal

abbrev pub invariant-loop-seat : goal.invariant-loop-seat
invariant-loop-seat g l = AllByRecursion (λ (w : WorkerSide). (l.worker.0 == w.worker) ≡ false) (map worker_side (take l.seat-index l.workers))

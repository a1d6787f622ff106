use Rattle.std.proofs.Common.{map, take}
use Rattle.std.specs.List.{AllByRecursion}
use Rattle.dmc_ledger.specs.Bundles.{client_side}
use Rattle.dmc_book.specs.BookState.{pass_state, worker_side}
use Rattle.dmc_book.specs.Settling.{IsOwn}
use Rattle.dmc_book.proofs.settled.are_own.Given as goal

abbrev pub invariant-loop-pass : goal.invariant-loop-pass
invariant-loop-pass g l = AllByRecursion (IsOwn (map worker_side l.workers) (map client_side l.desks)) (map pass_state (take l.pass-index l.passes))

use Rattle.std.proofs.Common.{ℕ, ◌<◌, map, get_or}
use Rattle.dmc_ledger.specs.Bundles.{stamp_holdings, server_side}
use Rattle.dmc_ledger.specs.Moves.{AreOf}
use Rattle.dmc_tlock.specs.BookState.{no_side, no_tills}
use Rattle.dmc_tlock.proofs.settled.is_own.Given as goal

abbrev pub invariant-loop-i : goal.invariant-loop-i
invariant-loop-i g l = (k : ℕ) → k < l.i → AreOf (get_or (map stamp_holdings l.tills) k no_tills) (get_or (map server_side l.desks) k no_side).books

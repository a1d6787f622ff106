use Rattle.std.proofs.Common.{ℕ, ◌<◌, map, get_or}
use Rattle.dmc_ledger.specs.Bundles.{grant_holdings, client_side}
use Rattle.dmc_book.specs.BookState.{no_desk, no_unit}
use Rattle.dmc_book.specs.Settling.{AreUnitsOf}
use Rattle.dmc_book.proofs.settled.are_desk_units.Given as goal

abbrev pub invariant-loop-i : goal.invariant-loop-i
invariant-loop-i g l = (k : ℕ) → k < l.i → AreUnitsOf (get_or (map grant_holdings l.units) k no_unit) (get_or (map client_side l.desks) k no_desk).books

use Rattle.std.proofs.Common.{◌≡◌, ℕ, ◌+◌, ◌<◌, ◌≤◌, ◌++◌, length, map, take, get_or}
use Rattle.std.specs.Prelude.{vec_capacity}
use Rattle.dmc_ledger.specs.Bundles.{grant_holdings, client_side}
use Rattle.dmc_book.specs.BookState.{no_desk}
use Rattle.dmc_book.specs.Opening.{desk_with_tills, new_unit}
use Rattle.dmc_book.proofs.opening.open_units.Given as goal

abbrev pub invariant-loop-i : goal.invariant-loop-i
invariant-loop-i g l = record {
  room : length l.fn.units.items + length l.fn.desks ≤ vec_capacity l.units;
  as_many : length l.desks ≡ length l.fn.desks;
  a_unit_each : length l.units.items ≡ length l.fn.units.items + l.i;
  done : (k : ℕ) → k < l.i → get_or (map client_side l.desks) k no_desk ≡ desk_with_tills 1 (get_or (map client_side l.fn.desks) k no_desk);
  rest : (k : ℕ) → l.i ≤ k → get_or (map client_side l.desks) k no_desk ≡ get_or (map client_side l.fn.desks) k no_desk;
  its : map grant_holdings l.units.items ≡ map grant_holdings l.fn.units.items ++ map new_unit (take l.i (map client_side l.fn.desks));
}

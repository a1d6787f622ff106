use Rattle.std.proofs.Common.{◌≡◌, ℕ, ◌<◌, ◌≤◌, length, map, get_or}
use Rattle.std.specs.Prelude.{nat_lt}
use Rattle.dmc_ledger.specs.Bundles.{grant_holdings, client_side}
use Rattle.dmc_book.specs.Counts.{one_if}
use Rattle.dmc_book.specs.BookState.{no_desk, no_unit}
use Rattle.dmc_book.specs.Settling.{IsDeskTakenIn, amounts_in}
use Rattle.dmc_book.proofs.settled.take_units.Given as goal

abbrev pub invariant-loop-unit : goal.invariant-loop-unit
invariant-loop-unit g l = record {
  fewer : length l.units.items ≤ length l.fn.units.items;
  fits : length l.units.items ≤ length l.fn.desks;
  as_many : length l.desks ≡ length l.fn.desks;
  same : (k : ℕ) → k < length l.units.items → get_or (map grant_holdings l.units.items) k no_unit ≡ get_or (map grant_holdings l.fn.units.items) k no_unit;
  rest : (k : ℕ) → k < length l.units.items → get_or (map client_side l.desks) k no_desk ≡ get_or (map client_side l.fn.desks) k no_desk;
  done : (k : ℕ) → length l.units.items ≤ k → k < length l.fn.desks
      → IsDeskTakenIn (one_if (nat_lt k (length (map grant_holdings l.fn.units.items)))) (amounts_in (get_or (map grant_holdings l.fn.units.items) k no_unit).reservation) (amounts_in (get_or (map grant_holdings l.fn.units.items) k no_unit).priority)
      (get_or (map client_side l.fn.desks) k no_desk) (get_or (map client_side l.desks) k no_desk);
}

abbrev pub decreases-loop-unit : goal.decreases-loop-unit
decreases-loop-unit g l = goal.left-loop-unit g l

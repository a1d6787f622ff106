use Rattle.std.proofs.Common.{◌≡◌, ℕ, ◌<◌, ◌≤◌, length, map, get_or}
use Rattle.std.specs.Prelude.{vec_capacity}
use Rattle.dmc_ledger.specs.Bundles.{stamp_holdings, server_side}
use Rattle.dmc_ledger.specs.Moves.{new_tills}
use Rattle.dmc_tlock.specs.BookState.{no_side, no_tills}
use Rattle.dmc_tlock.specs.Opening.{side_after_opening}
use Rattle.dmc_tlock.proofs.pass.open_pass.Given as goal

abbrev pub invariant-loop-i : goal.invariant-loop-i
invariant-loop-i g l = record {
  room : length l.fn.desks ≤ vec_capacity l.tills;
  as_many : length l.desks ≡ length l.fn.desks;
  a_till_each : length l.tills.items ≡ l.i;
  done : (k : ℕ) → k < l.i → get_or (map server_side l.desks) k no_side ≡ side_after_opening (get_or (map server_side l.fn.desks) k no_side);
  rest : (k : ℕ) → l.i ≤ k → get_or (map server_side l.desks) k no_side ≡ get_or (map server_side l.fn.desks) k no_side;
  its : (k : ℕ) → k < l.i → get_or (map stamp_holdings l.tills.items) k no_tills ≡ new_tills (get_or (map server_side l.fn.desks) k no_side).books;
}

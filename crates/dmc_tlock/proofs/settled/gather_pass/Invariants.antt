use Rattle.std.proofs.Common.{◌≡◌, ℕ, ◌<◌, ◌≤◌, length, map, get_or}
use Rattle.dmc_ledger.specs.Bundles.{stamp_holdings, server_side}
use Rattle.dmc_tlock.specs.BookState.{no_side, no_tills}
use Rattle.dmc_ledger.specs.Moves.{AreWithin}
use Rattle.dmc_tlock.specs.Settling.{side_after_gather, held_of}
use Rattle.dmc_tlock.proofs.settled.gather_pass.Given as goal

abbrev pub invariant-loop-last : goal.invariant-loop-last
invariant-loop-last g l = record {
  fits : length l.tills.items ≤ length l.fn.desks;
  as_many : length l.desks ≡ length l.fn.desks;
  a_held_each : length l.held ≡ length l.fn.desks;
  same : (k : ℕ) → k < length l.tills.items → get_or (map stamp_holdings l.tills.items) k no_tills ≡ get_or (map stamp_holdings l.fn.tills.items) k no_tills;
  rest : (k : ℕ) → k < length l.tills.items → get_or (map server_side l.desks) k no_side ≡ get_or (map server_side l.fn.desks) k no_side;
  done : (k : ℕ) → length l.tills.items ≤ k → k < length l.fn.desks
      → get_or (map server_side l.desks) k no_side
      ≡ side_after_gather (get_or (map stamp_holdings l.fn.tills.items) k no_tills) (get_or (map server_side l.fn.desks) k no_side);
  its : (k : ℕ) → length l.tills.items ≤ k → k < length l.fn.desks
      → get_or l.held k (held_of no_tills) ≡ held_of (get_or (map stamp_holdings l.fn.tills.items) k no_tills);
  within : (k : ℕ) → length l.tills.items ≤ k → k < length l.fn.desks
      → AreWithin (get_or (map stamp_holdings l.fn.tills.items) k no_tills) (get_or (map server_side l.fn.desks) k no_side).books;
}

abbrev pub decreases-loop-last : goal.decreases-loop-last
decreases-loop-last g l = goal.left-loop-last g l

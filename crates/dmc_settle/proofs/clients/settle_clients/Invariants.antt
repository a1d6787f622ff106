use Rattle.std.proofs.Common.{◌≡◌, ◌≤◌, ◌<◌, ℕ, [], length, map, get_or}
use Rattle.dmc_tlock.specs.Consistent.{IsConsistent}
use Rattle.dmc_settle.specs.internal.Filled.{AreBalanced, AreClientNumbers, client_numbers, no_client_numbers}
use Rattle.dmc_settle.specs.internal.Places.{no_tracker, sides}
use Rattle.dmc_settle.proofs.clients.settle_clients.Given as goal

abbrev pub invariant-loop-tracker : goal.invariant-loop-tracker
invariant-loop-tracker g l = record {
  fits : length l.trackers.items ≤ length l.fn.trackers.items;
  a_pass_each : length l.passes.items ≡ length l.trackers.items;
  a_row_each : length l.rows ≡ length l.fn.trackers.items;
  same : (k : ℕ) → k < length l.trackers.items → get_or l.trackers.items k no_tracker ≡ get_or l.fn.trackers.items k no_tracker;
  same_passes : (k : ℕ) → k < length l.trackers.items → get_or l.passes.items k [] ≡ get_or l.fn.passes.items k [];
  numbers : (k : ℕ) → length l.trackers.items ≤ k → k < length l.fn.trackers.items
      → AreClientNumbers (map sides l.desks) k (get_or l.fn.trackers.items k no_tracker) (get_or l.fn.passes.items k [])
      (get_or (map client_numbers l.rows) k no_client_numbers);
  balanced : (k : ℕ) → length l.trackers.items ≤ k → k < length l.fn.trackers.items
      → AreBalanced (map sides l.desks) k (get_or l.fn.trackers.items k no_tracker) (get_or l.fn.passes.items k []);
  consistent : (k : ℕ) → length l.trackers.items ≤ k → k < length l.fn.trackers.items → IsConsistent (get_or l.fn.trackers.items k no_tracker);
  clients : map (λ r. r.client) l.rows ≡ map (λ r. r.client) l.fn.rows;
  failed : map (λ r. r.failed) l.rows ≡ map (λ r. r.failed) l.fn.rows;
  stops : map (λ r. r.stop) l.rows ≡ map (λ r. r.stop) l.fn.rows;
}

abbrev pub decreases-loop-tracker : goal.decreases-loop-tracker
decreases-loop-tracker g l = length l.trackers.items

use Rattle.std.proofs.Common.{◌≡◌, ℕ, ◌<◌, ◌≤◌, length, get_or}
use Rattle.dmc_heap.proofs.indexed_heap.map_entries.Given as goal

-- the entries before this one are mapped, and the others are as they were
abbrev pub invariant-loop-entry : goal.invariant-loop-entry
invariant-loop-entry g l = record {
  size : length l.entries ≡ length l.fn.entries;
  keys : (k : ℕ) (d : _) → k < length l.fn.entries → (get_or l.entries k d).key ≡ (get_or l.fn.entries k d).key;
  ranks : (k : ℕ) (d : _) → k < l.entry-index → goal.F-post g l.f (get_or l.fn.entries k d).rank (get_or l.entries k d).rank;
  rest : (k : ℕ) (d : _) → l.entry-index ≤ k → get_or l.entries k d ≡ get_or l.fn.entries k d;
}

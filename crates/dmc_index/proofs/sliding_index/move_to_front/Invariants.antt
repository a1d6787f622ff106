use Rattle.std.proofs.Common.{◌≡◌, ℕ, ◌+◌, ◌<◌, ◌≤◌, length, get_or}
use Rattle.dmc_index.proofs.sliding_index.move_to_front.Given as goal

-- those before this one were moved
abbrev pub invariant-loop-i : goal.invariant-loop-i
invariant-loop-i g l = record {
  size : length l.entries ≡ length l.fn.entries;
  moved : (k : ℕ) (d : _) → k + l.start < l.i → get_or l.entries k d ≡ get_or l.fn.entries (k + l.start) d;
  rest : (k : ℕ) (d : _) → l.i ≤ k → get_or l.entries k d ≡ get_or l.fn.entries k d;
}

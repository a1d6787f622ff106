use Rattle.std.proofs.Common.{◌≡◌, ℕ, ◌+◌, ◌<◌, ◌≤◌, length, get_or}
use Rattle.dmc_index.proofs.sliding_index.take_out.Given as goal

-- those between the hole and the index were moved
abbrev pub invariant-loop-hole : goal.invariant-loop-hole
invariant-loop-hole g l = record {
  size : length l.entries ≡ length l.fn.entries;
  started : l.start ≤ l.hole;
  within : l.hole ≤ l.at;
  moved : (k : ℕ) (d : _) → l.hole ≤ k → k < l.at → get_or l.entries (k + 1) d ≡ get_or l.fn.entries k d;
  rest : (k : ℕ) (d : _) → k < l.hole → get_or l.entries k d ≡ get_or l.fn.entries k d;
  after : (k : ℕ) (d : _) → l.at < k → get_or l.entries k d ≡ get_or l.fn.entries k d;
}

abbrev pub decreases-loop-hole : goal.decreases-loop-hole
decreases-loop-hole g l = l.hole

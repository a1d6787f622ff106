use Rattle.std.proofs.Common.{◌≡◌, ℕ, ◌+◌, ◌-◌, ◌<◌, ◌≤◌, length, get_or}
use Rattle.std.specs.declared.cmp.Ordering.TheVariants.{Less}
use Rattle.dmc_index.proofs.sliding_index.place_last.Given as goal

-- those after the hole were moved there, past which they are above the entry
abbrev pub invariant-loop-at : goal.invariant-loop-at
invariant-loop-at g l = record {
  size : length l.entries ≡ length l.fn.entries;
  started : l.start ≤ l.at;
  within : l.at < length l.fn.entries;
  before : (k : ℕ) (d : _) → k < l.at → get_or l.entries k d ≡ get_or l.fn.entries k d;
  after : (k : ℕ) (d : _) → l.at < k → k < length l.fn.entries → get_or l.entries k d ≡ get_or l.fn.entries (k - 1) d;
  last : (d : _) → l.at + 1 ≡ length l.fn.entries → get_or l.entries l.at d ≡ get_or l.fn.entries l.at d;
  above : (k : ℕ) (d : _) → l.at ≤ k → k + 1 < length l.fn.entries → g.R.Rank.cmp l.entry.rank (get_or l.fn.entries k d).rank ≡ Less;
}

abbrev pub decreases-loop-at : goal.decreases-loop-at
decreases-loop-at g l = l.at

-- Entries that are moved within a vector.
use Rattle.std.specs.Prelude.{◌≡◌, ◌≢◌, ℕ, ◌+◌, ◌-◌, ◌<◌, ◌≤◌, List, length, slice_index_or}
use Rattle.std.specs.declared.cmp.Ordering.{Ordering}
use Rattle.std.specs.declared.cmp.Ordering.TheVariants.{Less}
use Rattle.dmc_index.specs.declared.list_index.Entry.{Entry}

-- The last entry was moved to an index. Those from there on, whose ranks are above its own, are one further on.
-- The one before it, if that is not before the start, is not above it.
pub record IsPlaced {R : Type 0} (compare : R → R → Ordering) (start : ℕ) (old : List (Entry R)) (entry : Entry R) (at : ℕ) (new : List (Entry R)) : Type 0 where
  pub size : length new ≡ length old
  pub started : start ≤ at
  pub within : at < length old
  pub here : (d : Entry R) → slice_index_or new at d ≡ entry
  pub before : (k : ℕ) (d : Entry R) → k < at → slice_index_or new k d ≡ slice_index_or old k d
  pub after : (k : ℕ) (d : Entry R) → at < k → k < length old → slice_index_or new k d ≡ slice_index_or old (k - 1) d
  pub above : (k : ℕ) (d : Entry R) → at ≤ k → k + 1 < length old → compare entry.rank (slice_index_or old k d).rank ≡ Less
  pub below : (k : ℕ) (d : Entry R) → start ≤ k → k + 1 ≡ at → compare entry.rank (slice_index_or old k d).rank ≢ Less

-- the entry at an index was taken out, and those from the start to it are one further on
pub record IsTakenOut {R : Type 0} (start : ℕ) (old : List (Entry R)) (at : ℕ) (entry : Entry R) (new : List (Entry R)) : Type 0 where
  pub size : length new ≡ length old
  pub taken : (d : Entry R) → entry ≡ slice_index_or old at d
  pub before : (k : ℕ) (d : Entry R) → start ≤ k → k < at → slice_index_or new (k + 1) d ≡ slice_index_or old k d
  pub after : (k : ℕ) (d : Entry R) → at < k → slice_index_or new k d ≡ slice_index_or old k d

-- the entries from an index on were moved to the front
pub record IsMovedToFront {R : Type 0} (start : ℕ) (old new : List (Entry R)) : Type 0 where
  pub size : length new ≡ length old
  pub moved : (k : ℕ) (d : Entry R) → k + start < length old → slice_index_or new k d ≡ slice_index_or old (k + start) d

-- Entries whose ranks are mapped.
use Rattle.std.specs.Prelude.{◌≡◌, ℕ, ◌<◌, List, length, slice_index_or}
use Rattle.dmc_index.specs.declared.list_index.Entry.{Entry}

-- each entry has its key, and the rank that f returns for its rank
pub record MapsEntries {R : Type 0} (gives : R → R → Type 0) (old new : List (Entry R)) : Type 0 where
  pub size : length new ≡ length old
  pub keys : (k : ℕ) (d : Entry R) → k < length old → (slice_index_or new k d).key ≡ (slice_index_or old k d).key
  pub ranks : (k : ℕ) (d : Entry R) → k < length old → gives (slice_index_or old k d).rank (slice_index_or new k d).rank

-- A list that is copied key by key.
use Rattle.std.specs.Prelude.{◌≡◌, ℕ, ◌<◌, ◌≤◌, List, Option, None}
use Rattle.dmc_index.specs.Index.{slot_of_key}

-- the keys below this one are copied, and the others are not yet
pub record IsCopied {R : Type 0} (from : List (Option R)) (key : ℕ) (to : List (Option R)) : Type 0 where
  pub below : (k : ℕ) → k < key → slot_of_key to k ≡ slot_of_key from k
  pub above : (k : ℕ) → key ≤ k → slot_of_key to k ≡ None

-- How a history stores its events. No public clause cites this module.
use Rattle.std.specs.Prelude.{◌≡◌, ℕ, ◌-◌, ◌*◌, ◌<◌, ◌≤◌, List, [], ◌∷◌, length, min, vec_capacity}
use Rattle.std.specs.List.{flat_map}
use Rattle.std.specs.Global.{Vec}
use Rattle.dmc_types.specs.Limits.{max_events}
use Rattle.dmc_history.specs.Log.{block_size}

module _ {E : Type 0} where
  -- the events of all blocks, oldest first
  abbrev pub events_of : List (Vec E) → List E
  events_of blocks = flat_map (λ b. b.items) blocks

  -- the blocks hold this many events: each has memory for a block of them, and is full before the next begins
  abbrev pub AreFilled : List (Vec E) → ℕ → Type 0
  AreFilled [] len = len ≡ 0
  AreFilled (b ∷ bs) len =
      (block_size ≤ vec_capacity b) × (length b.items ≡ min len block_size) × AreFilled bs (len - block_size)

  -- the number of further slots, of at most `most` in all
  abbrev pub room_of : List (Vec E) → ℕ → ℕ → ℕ
  room_of blocks len most = min (block_size * length blocks) most - len

-- the limits of a history
pub record AreLimits (len most : ℕ) : Type 0 where
  pub some : 0 < most
  pub greatest : most ≤ max_events
  pub within : len ≤ most

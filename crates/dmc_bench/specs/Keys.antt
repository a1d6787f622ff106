-- An index that holds the first keys, each under a rank of its own client.
use Rattle.std.specs.Prelude.{◌≡◌, ℕ, ◌≤◌, ◌<◌, List, Option, Some, None, IsSome, length}
use Rattle.dmc_index.specs.Index.{slot_of_key}
use Rattle.dmc_tag.specs.declared.rank.TagRank.{TagRank}

-- Exactly the keys below the count have ranks, within the capacity, and each key's rank is that of the client of its number.
pub record HoldsFirst {T : Type 0} (count room : ℕ) (slots : List (Option (TagRank T))) : Type 0 where
  pub size : length slots ≡ room
  pub here : (key : ℕ) → key < count → IsSome (slot_of_key slots key)
  pub absent : (key : ℕ) → count ≤ key → slot_of_key slots key ≡ None
  pub own : (key : ℕ) (rank : TagRank T) → slot_of_key slots key ≡ Some rank → rank.client.0 ≡ key

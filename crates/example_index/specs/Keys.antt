-- What an index by reservation has of a client.
use Rattle.std.specs.Prelude.{◌≡◌, ℕ, List, Option, Some}
use Rattle.dmclock.specs.Types.{ClientId, TagRank}
use Rattle.dmclock.specs.Index.{slot_of_key}

-- some key has a rank of this client
pub record HasKey {T : Type 0} (id : ClientId) (slots : List (Option (TagRank T))) : Type 0 where
  pub key : ℕ
  pub rank : TagRank T
  pub holds : slot_of_key slots key ≡ Some rank
  pub its : rank.client ≡ id

-- The least of two tags, and of those of heads.
use Rattle.std.specs.Prelude.{◌≡◌, ◌<◌, ℕ, Bool, List, Option, Some, None, MatchOption, if◌then◌else◌}
use Rattle.std.specs.Option.{option_map}
use Rattle.std.specs.Ordering.{is_gt, is_eq}
use Rattle.dmc_tag.specs.Tag.{Tagging}
use Rattle.dmc_tag.specs.Order.{AtMost}
use Rattle.dmc_tag.specs.declared.rank.ReadyRank.{ReadyRank}
use Rattle.dmc_index.specs.Index.{slot_of_key}
use Rattle.dmc_head_index.specs.Least.{lesser}

-- the lesser of two tags, of which each may be absent
abbrev pub least_of_two : {T : Type 0} → Tagging T → Option T → Option T → Option T
least_of_two ops None b = b
least_of_two ops (Some a) None = Some a
least_of_two ops (Some a) (Some b) = Some (lesser ops a b)

-- what is known of the least when a head is added: the P of the first head, or the lesser of the known one and the new one
abbrev pub least_with : {T : Type 0} → Tagging T → Bool → Option T → T → Option T
least_with ops is_first least share = if is_first then Some share else option_map (λ known. lesser ops share known) least

-- what is known when a head is removed: nothing if its P was the least
abbrev pub least_without : {T : Type 0} → Tagging T → Option T → T → Option T
least_without ops None share = None
least_without ops (Some known) share = if is_eq (ops.compare share known) then None else Some known

-- what is known when a head changes: the new P if that is at most the least
abbrev pub least_after : {T : Type 0} → Tagging T → Option T → T → T → Option T
least_after ops None old new = None
least_after ops (Some known) old new = if is_gt (ops.compare new known) then least_without ops (Some known) old else Some new

-- the least tag of the keys below the capacity
pub record IsLeastTag {T : Type 0} (ops : Tagging T) (slots : List (Option (ReadyRank T))) (room : ℕ) (least : T) : Type 0 where
  pub key : ℕ
  pub rank : ReadyRank T
  pub within : key < room
  pub here : slot_of_key slots key ≡ Some rank
  pub tag : rank.tag ≡ least
  pub below : (k : ℕ) (other : ReadyRank T) → k < room → slot_of_key slots k ≡ Some other → AtMost ops least other.tag

-- no key below the capacity has a head, or it is the least of theirs
abbrev pub FindsLeast : {T : Type 0} → Tagging T → List (Option (ReadyRank T)) → ℕ → Option T → Type 0
FindsLeast ops slots room found = MatchOption found ((key : ℕ) → key < room → slot_of_key slots key ≡ None) (IsLeastTag ops slots room)

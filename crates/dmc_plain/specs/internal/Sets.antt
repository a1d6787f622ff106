-- The sets that the queue searches, and the best of a set among one client's requests, by its index.
use Rattle.std.specs.Prelude.{ℕ, Bool, false, not, ◌&&◌, if◌then◌else◌, List, Option, Some, None, slice_get, slice_index_or}
use Rattle.std.specs.Option.{option_map}
use Rattle.std.specs.List.{remove}
use Rattle.dmc_tag.specs.Tag.{Tagging}
use Rattle.dmc_tag.specs.Best.{Found, is_early, is_free, is_any, by_reservation, by_weight}
use Rattle.dmc_tag.specs.declared.plain.QueuedRequest.{QueuedRequest}
use Rattle.dmc_tag.specs.declared.rank.TagRank.{TagRank}
use Rattle.dmc_plain.specs.declared.best.Set.{Set}
use Rattle.dmc_plain.specs.declared.best.Set.TheVariants.{Early, Free, All}

abbrev pub members : {T : Type 0} → Tagging T → Set → QueuedRequest T → Bool
members ops (Early t) = is_early ops t
members ops (Free t) = is_free ops t
members ops All = is_any

abbrev pub tag_of : {T : Type 0} → Set → QueuedRequest T → Option T
tag_of (Early t) = by_reservation
tag_of (Free t) = by_weight
tag_of All = by_weight

abbrev pub rank_of : {T : Type 0} → Set → Found T → TagRank T
rank_of set found = record { tag = tag_of set found.request; client = found.client.id }

-- the element at an index, and the list without it
abbrev pub one_found : {R : Type 0} → List R → Option ℕ → Option (R × List R)
one_found xs None = None
one_found xs (Some i) = option_map (λ r. (r, remove xs i)) (slice_get xs i)

-- whether the element at an index is before x
abbrev pub beats : {R : Type 0} → (R → R → Bool) → List R → Option ℕ → R → Bool
beats before xs None x = false
beats before xs (Some i) x = before (slice_index_or xs i x) x

-- the index i of a member x that no other is before, else the one that was found
abbrev pub better_at : {R : Type 0} → (R → R → Bool) → (R → Bool) → List R → Option ℕ → ℕ → R → Option ℕ
better_at before member xs found i x = if member x && not (beats before xs found x) then Some i else found

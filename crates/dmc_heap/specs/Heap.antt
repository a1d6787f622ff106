-- A heap of entries with the index of each key in it, and the map that it represents.
use Rattle.std.specs.Prelude.{◌≡◌, ℕ, ◌-◌, ◌/◌, ◌<◌, ◌≤◌, List, Option, Some, None, false, map, length, count_by, is_some, slice_get}
use Rattle.std.specs.Option.{option_map}
use Rattle.std.specs.Ordering.{is_gt}
use Rattle.std.specs.declared.cmp.Ordering.{Ordering}
use Rattle.dmc_index.specs.Index.{AreApart}
use Rattle.dmc_heap.specs.declared.indexed_heap.Entry.{Entry}
use Rattle.dmc_heap.specs.declared.indexed_heap.TheConstants.{VACANT, CHILDREN}

-- the rank of the entry at an index, if there is one
abbrev pub rank_at : {R : Type 0} → List (Entry R) → ℕ → Option R
rank_at heap place = option_map (λ entry. entry.rank) (slice_get heap place)

-- what each key below the capacity holds
abbrev pub slots_of : {R : Type 0} → List (Entry R) → List ℕ → List (Option R)
slots_of heap places = map (rank_at heap) places

-- each key's index is that of its entry, or that of no entry; and each entry's key has the entry's index
pub record IsLinked {R : Type 0} (heap : List (Entry R)) (places : List ℕ) : Type 0 where
  pub placed : (place : ℕ) (entry : Entry R) → slice_get heap place ≡ Some entry → slice_get places entry.key ≡ Some place
  pub keyed : (key place : ℕ) (entry : Entry R) → slice_get places key ≡ Some place → slice_get heap place ≡ Some entry → entry.key ≡ key
  pub vacant : (key place : ℕ) → slice_get places key ≡ Some place → slice_get heap place ≡ None → place ≡ VACANT

-- ---- the order

abbrev pub parent_of : ℕ → ℕ
parent_of place = (place - 1) / CHILDREN

-- the rank of a is not above that of b
abbrev pub IsUpto : {R : Type 0} → (R → R → Ordering) → Entry R → Entry R → Type 0
IsUpto compare a b = is_gt (compare a.rank b.rank) ≡ false

-- no rank is above those of its children
abbrev pub IsHeap : {R : Type 0} → (R → R → Ordering) → List (Entry R) → Type 0
IsHeap {R} compare heap = (place : ℕ) (above below : Entry R) → 0 < place → slice_get heap (parent_of place) ≡ Some above → slice_get heap place ≡ Some below → IsUpto compare above below

-- The heap is linked, in order and without equal ranks, and there is memory for each key below the capacity.
pub record IsSound {R : Type 0} (compare : R → R → Ordering) (capacity : ℕ) (heap : List (Entry R)) (places : List ℕ) : Type 0 where
  pub linked : IsLinked heap places
  pub ordered : IsHeap compare heap
  pub apart : AreApart compare (slots_of heap places)
  pub counted : count_by is_some (slots_of heap places) ≡ length heap
  pub memory : length places ≤ capacity

-- A hole in the heap that is moved and filled, and entries whose ranks are mapped.
use Rattle.std.specs.Prelude.{◌≡◌, ◌≢◌, ℕ, ◌<◌, ◌≤◌, ◌⊎◌, List, Option, Some, length, slice_get, slice_set, slice_index_or, option_and_then}
use Rattle.std.specs.declared.cmp.Ordering.{Ordering}
use Rattle.dmc_heap.specs.declared.indexed_heap.Entry.{Entry}
use Rattle.dmc_heap.specs.Heap.{rank_at, IsLinked, parent_of, IsUpto, IsHeap}

-- the rank of a key
abbrev pub rank_of : {R : Type 0} → List (Entry R) → List ℕ → ℕ → Option R
rank_of heap places key = option_and_then (rank_at heap) (slice_get places key)

-- ---- a hole in the heap, to be filled with an entry

-- The heap is linked once the entry is put into the hole. Whatever the hole contains, the others are in order, also across the
-- hole.
pub record IsHole {R : Type 0} (compare : R → R → Ordering) (heap : List (Entry R)) (places : List ℕ) (hole : ℕ) (entry : Entry R) : Type 0 where
  pub within : hole < length heap
  pub linked : IsLinked (slice_set heap hole entry) (slice_set places entry.key hole)
  pub ordered : (place : ℕ) (above below : Entry R) → 0 < place → place ≢ hole → parent_of place ≢ hole → slice_get heap (parent_of place) ≡ Some above → slice_get heap place ≡ Some below → IsUpto compare above below
  pub across : (place : ℕ) (above below : Entry R) → 0 < place → 0 < hole → parent_of place ≡ hole → slice_get heap (parent_of hole) ≡ Some above → slice_get heap place ≡ Some below → IsUpto compare above below

-- the entry may be put below what is above the hole
abbrev pub IsUnderParent : {R : Type 0} → (R → R → Ordering) → List (Entry R) → ℕ → Entry R → Type 0
IsUnderParent {R} compare heap hole entry = (above : Entry R) → 0 < hole → slice_get heap (parent_of hole) ≡ Some above → IsUpto compare above entry

-- the entry may be put above what is below the hole
abbrev pub IsOverChildren : {R : Type 0} → (R → R → Ordering) → List (Entry R) → ℕ → Entry R → Type 0
IsOverChildren {R} compare heap hole entry = (place : ℕ) (below : Entry R) → 0 < place → parent_of place ≡ hole → slice_get heap place ≡ Some below → IsUpto compare entry below

-- the hole was moved, and each key has the rank that it had
pub record IsMoved {R : Type 0} (heap : List (Entry R)) (places : List ℕ) (hole : ℕ) (entry : Entry R) (new_heap : List (Entry R)) (new_places : List ℕ) (new_hole : ℕ) : Type 0 where
  pub size : length new_heap ≡ length heap
  pub room : length new_places ≡ length places
  pub ranks : (key : ℕ) → rank_of (slice_set new_heap new_hole entry) (slice_set new_places entry.key new_hole) key ≡ rank_of (slice_set heap hole entry) (slice_set places entry.key hole) key

-- one of two indexes, and the rank there is not above that at the other
pub record IsLowerOf {R : Type 0} (compare : R → R → Ordering) (heap : List (Entry R)) (a b lower : ℕ) : Type 0 where
  pub one : (lower ≡ a) ⊎ (lower ≡ b)
  pub upto_a : (entry entry' : Entry R) → slice_get heap lower ≡ Some entry → slice_get heap a ≡ Some entry' → IsUpto compare entry entry'
  pub upto_b : (entry entry' : Entry R) → slice_get heap lower ≡ Some entry → slice_get heap b ≡ Some entry' → IsUpto compare entry entry'

-- no index of a range has a rank below that of this one
pub record IsLowest {R : Type 0} (compare : R → R → Ordering) (heap : List (Entry R)) (from to lowest : ℕ) : Type 0 where
  pub within : lowest < length heap
  pub after : from ≤ lowest
  pub before : lowest < to
  pub upto_others : (other : ℕ) (entry entry' : Entry R) → from ≤ other → other < to → slice_get heap lowest ≡ Some entry → slice_get heap other ≡ Some entry' → IsUpto compare entry entry'

-- no child of the index has a rank below that of this child
pub record IsLowestChild {R : Type 0} (compare : R → R → Ordering) (heap : List (Entry R)) (place child : ℕ) : Type 0 where
  pub within : child < length heap
  pub positive : 0 < child
  pub parent : parent_of child ≡ place
  pub lower : (other : ℕ) (entry entry' : Entry R) → 0 < other → parent_of other ≡ place → slice_get heap child ≡ Some entry → slice_get heap other ≡ Some entry' → IsUpto compare entry entry'

-- the hole was filled with the entry, and the heap put in order
pub record IsSettled {R : Type 0} (compare : R → R → Ordering) (heap : List (Entry R)) (places : List ℕ) (hole : ℕ) (entry : Entry R) (new_heap : List (Entry R)) (new_places : List ℕ) : Type 0 where
  pub size : length new_heap ≡ length heap
  pub room : length new_places ≡ length places
  pub linked : IsLinked new_heap new_places
  pub ordered : IsHeap compare new_heap
  pub ranks : (key : ℕ) → rank_of new_heap new_places key ≡ rank_of (slice_set heap hole entry) (slice_set places entry.key hole) key

-- each entry has its key, and the rank that f returns for its rank
pub record MapsEntries {R : Type 0} (gives : R → R → Type 0) (old new : List (Entry R)) : Type 0 where
  pub size : length new ≡ length old
  pub keys : (k : ℕ) (d : Entry R) → k < length old → (slice_index_or new k d).key ≡ (slice_index_or old k d).key
  pub ranks : (k : ℕ) (d : Entry R) → k < length old → gives (slice_index_or old k d).rank (slice_index_or new k d).rank

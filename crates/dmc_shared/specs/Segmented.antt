-- A list whose first records may have been released, in segments.
use Rattle.std.specs.Prelude.{◌≡◌, ℕ, ◌+◌, ◌<◌, ◌≤◌, ◌^◌, Bool, true, if◌then◌else◌, List, [], ◌∷◌, ◌++◌, flat_map, length}
use Rattle.dmc_types.specs.Limits.{max_events}
use Rattle.dmc_history.specs.Log.{Log}

-- the most records of which a segment is still released
abbrev pub max_released : ℕ
max_released = 2 ^ 62

-- The number of the list in its set-up; all records, oldest first, released or not; how many of them were released; how many
-- there may be until more are released; and for how many more a place is reserved.
pub record Segmented (E : Type 0) : Type 0 where
  pub number : ℕ
  pub events : List E
  pub first : ℕ
  pub most : ℕ
  pub room : ℕ

-- A segment: the number of its list, the list up to the segment's end, and how many records of that were released before.
pub record Ending (E : Type 0) : Type 0 where
  pub number : ℕ
  pub history : List E
  pub first : ℕ

-- the segment of all records that are kept
abbrev pub ending_of : {E : Type 0} → Segmented E → Ending E
ending_of h = record { number = h.number; history = h.events; first = h.first }

-- A segment may be released: there are not too many records, and the list was not taken out.
pub record MayRotate {E : Type 0} (h : Segmented E) : Type 0 where
  pub long : length h.events ≤ max_released
  pub goes_on : h.first < h.most

-- all records are released, and as many as before may be kept
abbrev pub after_rotating : {E : Type 0} → Segmented E → (kept : ℕ) → Segmented E
after_rotating h kept = record { number = h.number; events = h.events; first = length h.events; most = length h.events + kept; room = 0 }

-- ---- how it is kept

-- the records of these kept lists, one after the other
abbrev pub events_of : {L E : Type 0} → (L → Log E) → List L → List E
events_of log lists = flat_map (λ l. (log l).events) lists

-- none of a list that was taken out
abbrev pub events_unless : {L E : Type 0} → (L → Log E) → Bool → List L → List E
events_unless log taken lists = if taken then [] else events_of log lists

-- nor may it keep any more
abbrev pub max_unless : Bool → ℕ → ℕ
max_unless taken most = if taken then 0 else most

-- The numbers are those of what was released. A list that was taken out keeps nothing.
pub record IsSegmented {L E : Type 0} (log : L → Log E) (taken : Bool) (released : List L) (first : ℕ) (kept : L) : Type 0 where
  pub number : first ≡ length (events_unless log taken released)
  pub few : first ≤ max_released
  pub some : 0 < (log kept).most
  pub limit : (log kept).most ≤ max_events
  pub none : taken ≡ true → (log kept).events ≡ []
  pub closed : taken ≡ true → (log kept).room ≡ 0

-- This is the last of these lists, and those before it have `first` records.
pub record IsLast {L E : Type 0} (log : L → Log E) (lists : List L) (kept : L) (first : ℕ) : Type 0 where
  pub before : List L
  pub last : lists ≡ before ++ kept ∷ []
  pub number : first ≡ length (events_of log before)

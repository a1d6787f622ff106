-- An index as a finite map: a list of what each key below its capacity holds.
use Rattle.std.specs.Prelude.{◌≡◌, ◌≢◌, ℕ, List, Option, Some, None, length, MatchOption, IsSomeAnd, slice_index_or}
use Rattle.std.specs.declared.cmp.Ordering.{Ordering}
use Rattle.std.specs.declared.cmp.Ordering.TheVariants.{Less, Equal}

-- what the key holds: its rank, or nothing
abbrev pub slot_of_key : {R : Type 0} → List (Option R) → ℕ → Option R
slot_of_key slots key = slice_index_or slots key None

-- no key has a rank
abbrev pub IsEmpty : {R : Type 0} → List (Option R) → Type 0
IsEmpty slots = (key : ℕ) → slot_of_key slots key ≡ None

-- a rank that is distinct from those of all keys
abbrev pub IsApart : {R : Type 0} → (R → R → Ordering) → List (Option R) → R → Type 0
IsApart {R} compare slots rank = (key : ℕ) (other : R) → slot_of_key slots key ≡ Some other → compare rank other ≢ Equal

-- a rank that is distinct from those of the other keys
abbrev pub IsApartFromOthers : {R : Type 0} → (R → R → Ordering) → List (Option R) → ℕ → R → Type 0
IsApartFromOthers {R} compare slots key rank = (k : ℕ) (other : R) → k ≢ key → slot_of_key slots k ≡ Some other → compare rank other ≢ Equal

-- the ranks of the keys are distinct
abbrev pub AreApart : {R : Type 0} → (R → R → Ordering) → List (Option R) → Type 0
AreApart {R} compare slots = (key : ℕ) (rank : R) → slot_of_key slots key ≡ Some rank → IsApartFromOthers compare slots key rank

-- the key has this rank, which is below those of all other keys
pub record IsLeast {R : Type 0} (compare : R → R → Ordering) (slots : List (Option R)) (key : ℕ) (rank : R) : Type 0 where
  pub here : slot_of_key slots key ≡ Some rank
  pub below : (k : ℕ) (other : R) → k ≢ key → slot_of_key slots k ≡ Some other → compare rank other ≡ Less

-- f keeps the order of two ranks in the index
abbrev pub KeepsOrder : {R : Type 0} → (R → R → Ordering) → List (Option R) → (R → R → Type 0) → Type 0
KeepsOrder {R} compare slots gives = (a b : ℕ) (r s x y : R) → slot_of_key slots a ≡ Some r → slot_of_key slots b ≡ Some s → compare r s ≡ Less → gives r x → gives s y → compare x y ≡ Less

-- the same keys have ranks as before, and each the rank that f returns
pub record IsMapped {R : Type 0} (gives : R → R → Type 0) (old new : List (Option R)) : Type 0 where
  pub room : length new ≡ length old
  pub ranks : (key : ℕ) → MatchOption (slot_of_key old key) (slot_of_key new key ≡ None) (λ rank. IsSomeAnd (slot_of_key new key) (gives rank))

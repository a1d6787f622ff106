-- The invariant of a sorted vector of entries, and the map that it represents.
use Rattle.std.specs.Prelude.{[], ◌≡◌, ◌≢◌, ℕ, ◌<◌, ◌≤◌, List, ◌∷◌, Option, Some, None, replicate, slice_set}
use Rattle.std.specs.List.{All, AllPairs}
use Rattle.std.specs.declared.cmp.Ordering.{Ordering}
use Rattle.std.specs.declared.cmp.Ordering.TheVariants.{Less}
use Rattle.dmc_index.specs.declared.list_index.Entry.{Entry}

-- what each key below the capacity holds: each entry's rank at its key
abbrev pub slots_of : {R : Type 0} → ℕ → List (Entry R) → List (Option R)
slots_of room [] = replicate room None
slots_of room (entry ∷ entries) = slice_set (slots_of room entries) entry.key (Some entry.rank)

-- each rank is below those after it
abbrev pub IsRising : {R : Type 0} → (R → R → Ordering) → List (Entry R) → Type 0
IsRising compare entries = AllPairs (λ a b. compare a.rank b.rank ≡ Less) entries

-- The ranks rise, the keys are distinct and below the capacity, and there is memory for as many entries.
pub record IsSound {R : Type 0} (compare : R → R → Ordering) (room capacity : ℕ) (entries : List (Entry R)) : Type 0 where
  pub rising : IsRising compare entries
  pub distinct : AllPairs (λ a b. a.key ≢ b.key) entries
  pub in_room : All (λ entry. entry.key < room) entries
  pub memory : room ≤ capacity

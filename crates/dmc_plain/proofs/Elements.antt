-- One element of a list.
use Rattle.std.proofs.Common.{◌≡◌, ℕ, ◌<◌, zero, suc, List, [], ◌∷◌, length, drop, refl, arith, Some}
use Rattle.std.specs.Prelude.{slice_get}

-- what is at an index, and what follows it
pub element_at : {R : Type 0} (xs : List R) (i : ℕ) → i < length xs → (x : R) × (slice_get xs i ≡ Some x) × (drop i xs ≡ x ∷ drop (suc i) xs)
element_at [] i within = absurd (omega arith)
element_at (x ∷ xs) zero within = (x, refl, refl)
element_at (x ∷ xs) (suc i) within = element_at xs i (omega arith)

-- What holds of each item of a list holds of one more.
use Rattle.std.proofs.Common.{◌≡◌, ◌+◌, ◌≤◌, List, [], ◌∷◌, ◌++◌, length, get_or, subst, sym, inl, inr, arith, ap, ◌∙◌}
use Rattle.std.specs.Prelude.{All, IsOk, Result, Ok, Err, if◌then◌else◌, is_ok}
use Rattle.std.proofs.Math.Nat.{eq-or-lt_of_le}
use Rattle.std.proofs.lemmas.Bool.{false≢true}
use Rattle.std.proofs.Math.ListN.{get_or-append}
use Rattle.std.proofs.Math.Seq.{get_or-append_seam}
use Rattle.std.proofs.lemmas.List.{length-append}

pub all_more : {X : Type 0} (P : X → Type 0) (xs : List X) (x : X) → All P xs → P x → All P (xs ++ x ∷ [])
all_more P xs x all h k d within =
    let le : k ≤ length xs = omega (arith, within, length-append xs (x ∷ [])) in
    elim (eq-or-lt_of_le le) [
      | inl e ↦ subst P (sym (ap (λ i. get_or (xs ++ x ∷ []) i d) e ∙ get_or-append_seam xs x [] d)) h
      | inr low ↦ subst P (sym (get_or-append xs (x ∷ []) d k low)) (all k d low)
    ]

-- a push that may fail
pub all_pushed : {X Y E : Type 0} (P : X → Type 0) (xs : List X) (x : X) (answer : Result Y E) {ys : List X} → All P xs → P x
    → ys ≡ (if is_ok answer then xs ++ x ∷ [] else xs) → All P ys
all_pushed P xs x (Ok y) all h new = subst (All P) (sym new) (all_more P xs x all h)
all_pushed P xs x (Err e) all h new = subst (All P) (sym new) all

-- a push for which there is room
pub one_pushed : {X Y E : Type 0} (xs : List X) (x : X) (answer : Result Y E) {ys : List X} → IsOk answer → ys ≡ (if is_ok answer then xs ++ x ∷ [] else xs)
    → length ys ≡ length xs + 1
one_pushed xs x (Ok y) ok new = ap length new ∙ length-append xs (x ∷ [])
one_pushed xs x (Err e) ok new = absurd (false≢true ok)

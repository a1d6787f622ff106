-- A relation of a book to a later state of it, which holds of the book itself: whatever a call answers, it holds.
use Rattle.std.proofs.Common.{◌≡◌, ℕ, zero, suc, List, [], ◌∷◌, map, set, get_or, refl, sym, ap, subst}
use Rattle.std.specs.Prelude.{Option, Some, None, IfSome, IfNone, IsSome, OnSome, Result, Ok, Err, OnOk, OnErr}

-- a write that is seen as what was there
pub seen_set : {X Y : Type 0} (f : X → Y) (xs : List X) (i : ℕ) (x d : X) → f x ≡ f (get_or xs i d) → map f (set xs i x) ≡ map f xs
seen_set f [] i x d h = refl
seen_set f (y ∷ ys) zero x d h = ap (λ z. z ∷ map f ys) h
seen_set f (y ∷ ys) (suc i) x d h = ap (λ zs. f y ∷ zs) (seen_set f ys i x d h)

module _ {B X : Type 0} (P : B → B → Type 0) (same : (b : B) → P b b) (old new next : B) where
  -- a call that is refused leaves the book
  pub later_by : {E : Type 0} (answer : Result X E) → P old next → OnOk answer (new ≡ next) → OnErr answer (new ≡ old) → P old new
  later_by (Ok x) later ok err = subst (P old) (sym ok) later
  later_by (Err e) later ok err = subst (P old) (sym err) (same old)

  -- so does a call that returns nothing
  pub later_if : (answer : Option X) → (IsSome answer → P old next) → IfSome answer (λ _. new ≡ next) → IfNone answer (new ≡ old) → P old new
  later_if (Some x) later some none = subst (P old) (sym some) (later refl)
  later_if None later some none = subst (P old) (sym none) (same old)

pub on_some : {X Q : Type 0} (answer : Option X) → OnSome answer Q → IsSome answer → Q
on_some (Some x) holds some = holds
on_some None holds some = absurd cc

-- Lists in parts: what holds of each element, and the result of a map, a filter or a test of all.
use Rattle.std.proofs.Common.{◌≡◌, ℕ, suc, Bool, true, false, ◌&&◌, cond, List, [], ◌∷◌, ◌++◌, map, length, refl, sym, ap, ◌∙◌, arith}
use Rattle.std.specs.Prelude.{filter, ◌==◌}
use Rattle.std.specs.List.{list_all, AllByRecursion}
use Rattle.std.proofs.lemmas.Bool.{eqb-true, eqb-false, eq-eqb}
pub use Rattle.dmc_lemmas.proofs.Options.{map_cond}
pub use Rattle.dmc_lemmas.proofs.Lists.{all_as, all_both, all_mapped, each_passes, all_at, all_append, all_next, all_filtered, found_holds, found_passes, length_filtered, map_unmoved}
pub use Rattle.dmc_lemmas.proofs.Booleans.{eqb_turned}
pub use Rattle.std.proofs.Math.Bool.{and-true}

pub true_not_false : (b : Bool) → b ≡ true → b ≡ false → ⊥
true_not_false b p q = cc

-- ---- what holds of each

pub all_front : {X : Type 0} (P : X → Type 0) (xs ys : List X) → AllByRecursion P (xs ++ ys) → AllByRecursion P xs
all_front P [] ys h = tt
all_front P (x ∷ xs) ys h = (h.0, all_front P xs ys h.1)

pub all_back : {X : Type 0} (P : X → Type 0) (xs ys : List X) → AllByRecursion P (xs ++ ys) → AllByRecursion P ys
all_back P [] ys h = h
all_back P (x ∷ xs) ys h = all_back P xs ys h.1

-- ---- maps

pub map_agree : {X Y : Type 0} (f g : X → Y) (xs : List X) → AllByRecursion (λ x. f x ≡ g x) xs → map f xs ≡ map g xs
map_agree f g [] h = refl
map_agree f g (x ∷ xs) h = ap (λ y. y ∷ map f xs) h.0 ∙ ap (λ ys. g x ∷ ys) (map_agree f g xs h.1)

-- ---- tests

pub all_pass : {X : Type 0} (test : X → Bool) (xs : List X) → AllByRecursion (λ x. test x ≡ true) xs → list_all test xs ≡ true
all_pass test [] h = refl
all_pass test (x ∷ xs) h = ap (λ b. b && list_all test xs) h.0 ∙ all_pass test xs h.1

-- no length is both
pub positive : {X : Type 0} (xs : List X) → (suc (length xs) == 0) ≡ false
positive xs = by (suc (length xs) == 0) refl where
  by : (b : Bool) → (suc (length xs) == 0) ≡ b → (suc (length xs) == 0) ≡ false
  by true e = let none : suc (length xs) ≡ 0 = eqb-true (suc (length xs)) 0 e in absurd (omega arith)
  by false e = e

-- all pass exactly if a filter leaves all
pub all_is : {X : Type 0} (test : X → Bool) (xs : List X) → list_all test xs ≡ (length (filter test xs) == length xs)
all_is test [] = refl
all_is test (x ∷ xs) = at (all_is test xs) (test x) where
  same : (a b : ℕ) (r : Bool) → (a == b) ≡ r → r ≡ (suc a == suc b)
  same a b true e = sym (eq-eqb (suc a) (suc b) (ap suc (eqb-true a b e)))
  same a b false e = by (suc a == suc b) refl where
    by : (r : Bool) → (suc a == suc b) ≡ r → false ≡ (suc a == suc b)
    by true f = let one : suc a ≡ suc b = eqb-true (suc a) (suc b) f in absurd (eqb-false a b e (omega arith))
    by false f = sym f

  fewer : (r : Bool) → (length (filter test xs) == suc (length xs)) ≡ r → false ≡ (length (filter test xs) == suc (length xs))
  fewer true e = let one : length (filter test xs) ≡ suc (length xs) = eqb-true (length (filter test xs)) (suc (length xs)) e in absurd (omega (arith, length_filtered test xs))
  fewer false e = sym e

  at : list_all test xs ≡ (length (filter test xs) == length xs) → (b : Bool) → (b && list_all test xs) ≡ (length (cond b (x ∷ filter test xs) (filter test xs)) == suc (length xs))
  at more true = more ∙ same (length (filter test xs)) (length xs) (length (filter test xs) == length xs) refl
  at more false = fewer (length (filter test xs) == suc (length xs)) refl

-- the same, of what was counted
pub all_counted : {X : Type 0} (test : X → Bool) (xs ys : List X) (passed count : ℕ) → xs ≡ ys → passed ≡ length (filter test xs) → count ≡ length xs
    → (passed == count) ≡ list_all test ys
all_counted test xs ys passed count same p n = ap (λ a. a == count) p ∙ ap (λ b. length (filter test xs) == b) n ∙ sym (all_is test xs) ∙ ap (list_all test) same

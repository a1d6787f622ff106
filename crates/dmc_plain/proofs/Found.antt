-- What has been found, as the scan goes from the last request to the first.
use Rattle.std.proofs.Common.{◌≡◌, ℕ, suc, ◌+◌, ◌<◌, Bool, true, false, not, ◌&&◌, cond, List, ◌∷◌, length, drop, get_or, Option, Some, None, refl, sym, ap, ◌∙◌, subst, arith, drop-cons, length-drop}
use Rattle.std.specs.Prelude.{slice_get, IfSome}
use Rattle.std.specs.Option.{option_map}
use Rattle.std.specs.List.{remove}
use Rattle.std.proofs.lemmas.List.{get_or-drop}
use Rattle.std.proofs.lemmas.Option.{slice_get-get_or}
use Rattle.dmc_tag.specs.Best.{best}
use Rattle.dmc_plain.specs.internal.Sets.{one_found, beats}

module _ {R : Type 0} (before : R → R → Bool) (member : R → Bool) where
  -- the best of ys, which begin at index i
  abbrev pub Found : List R → ℕ → Option ℕ → Type 0
  Found ys i None = best before member ys ≡ None
  Found ys i (Some j) = (k : ℕ) × (j ≡ i + k) × (k < length ys) × (best before member ys ≡ one_found ys (Some k))

  none_before : (x : R) (ys : List R) (i : ℕ) → best before member ys ≡ None → (m : Bool) → member x ≡ m → Found (x ∷ ys) i (cond (m && true) (Some i) None)
  none_before x ys i e true is = (0, omega arith, omega arith, rw (e, is) refl)
  none_before x ys i e false is = rw (e, is) refl

  some_before : (x y : R) (ys : List R) (i j k : ℕ) → j ≡ suc i + k → k < length ys → slice_get ys k ≡ Some y → best before member ys ≡ one_found ys (Some k) → (b : Bool) → (member x && not (before y x)) ≡ b → Found (x ∷ ys) i (cond b (Some i) (Some j))
  some_before x y ys i j k at within here e true is =
      let f = e ∙ ap (option_map (λ (r : R). (r, remove ys k))) here in
      (0, omega arith, omega arith, rw (f, is) refl)
  some_before x y ys i j k at within here e false is =
      let f = e ∙ ap (option_map (λ (r : R). (r, remove ys k))) here in
      (suc k, omega arith, omega arith, rw (f, is, here) refl)

  -- one more, at the front
  more : (xs : List R) (x : R) (i : ℕ) (found : Option ℕ) → Found (drop (suc i) xs) (suc i) found → Found (x ∷ drop (suc i) xs) i (cond (member x && not (beats before xs found x)) (Some i) found)
  more xs x i None f = none_before x (drop (suc i) xs) i f (member x) refl
  more xs x i (Some j) (k, at, within, e) =
      let here = slice_get-get_or (drop (suc i) xs) k x within in
      let same : get_or (drop (suc i) xs) k x ≡ get_or xs j x = get_or-drop (suc i) xs k x ∙ ap (λ n. get_or xs n x) (sym at) in
      some_before x (get_or xs j x) (drop (suc i) xs) i j k at within (here ∙ ap Some same) e (member x && not (before (get_or xs j x) x)) refl

  pub found_more : (xs : List R) (x : R) (i : ℕ) (found : Option ℕ) → i < length xs → x ≡ get_or xs i x → Found (drop (suc i) xs) (suc i) found → Found (drop i xs) i (cond (member x && not (beats before xs found x)) (Some i) found)
  found_more xs x i found within is f =
      let e : drop i xs ≡ x ∷ drop (suc i) xs = drop-cons xs i x within ∙ ap (λ y. y ∷ drop (suc i) xs) (sym is) in
      subst (λ ys. Found ys i (cond (member x && not (beats before xs found x)) (Some i) found)) (sym e) (more xs x i found f)

  -- from the first index on, it is the best of all
  pub found_all : (xs : List R) (found : Option ℕ) → Found xs 0 found → one_found xs found ≡ best before member xs
  found_all xs None f = sym f
  found_all xs (Some j) (k, at, within, e) = let same : j ≡ k = omega arith in rw same (sym e)

  pub found_bound : (xs : List R) (i : ℕ) (found : Option ℕ) → Found (drop i xs) i found → IfSome found (λ j. j < length xs)
  found_bound xs i None f = tt
  found_bound xs i (Some j) (k, at, within, e) = omega (arith, length-drop i xs)

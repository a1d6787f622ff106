-- Lists that match place by place, and what is found and changed in them.
use Rattle.std.proofs.Common.{◌≡◌, ℕ, zero, suc, ◌<◌, ◌≤◌, Bool, true, false, List, [], ◌∷◌, length, map, set, get_or, slice_get, nat_lt, ◌==◌, ◌+◌, Option, Some, None, refl, sym, ap, ◌∙◌, inl, inr, ◌⊎◌, cond, arith}
use Rattle.std.specs.List.{AllZip, AllByRecursion, find, list_any, position, position_or_len, remove}
use Rattle.std.proofs.lemmas.Bool.{ltb-false}
use Rattle.std.proofs.lemmas.List.Folds.{find_at}
use Rattle.std.proofs.lemmas.List.Quantifiers.{position-Some}
use Rattle.dmc_core.specs.Run.{change_first, without_first}
use Rattle.std.proofs.lemmas.Option.{same_Some, slice_get_past}

-- ---- what is at a place of a list and of its image

pub record At {A B : Type 0} (f : A → B) (xs : List A) (ys : List B) (i : ℕ) : Type 0 where
  pub x : A
  pub at : slice_get xs i ≡ Some x
  pub found : slice_get ys i ≡ Some (f x)
  pub put : (x' : A) (y' : B) → f x' ≡ y' → set ys i y' ≡ map f (set xs i x')

pub at_place : {A B : Type 0} (f : A → B) (xs : List A) (ys : List B) (i : ℕ) → ys ≡ map f xs → i < length xs → At f xs ys i
at_place f [] ys i e w = absurd (omega (arith, w))
at_place f (x ∷ xs) ys zero e w = record { x = x; at = refl; found = rw e refl; put = λ x' y' is. rw (e, ← is) refl }
at_place f (x ∷ xs) ys (suc i) e w =
    let rest = at_place f xs (map f xs) i refl (omega (arith, w)) in
    record { x = rest.x; at = rest.at; found = rw e rest.found; put = λ x' y' is. rw e (ap (λ zs. f x ∷ zs) (rest.put x' y' is)) }

pub set_same : {A : Type 0} (xs : List A) (i : ℕ) (x : A) → slice_get xs i ≡ Some x → set xs i x ≡ xs
set_same [] i x e = refl
set_same (y ∷ ys) zero x e = rw (sym (same_Some y x e)) refl
set_same (y ∷ ys) (suc i) x e = ap (λ zs. y ∷ zs) (set_same ys i x e)

pub all_set : {A : Type 0} (P : A → Type 0) (xs : List A) (i : ℕ) (x : A) → AllByRecursion P xs → P x → AllByRecursion P (set xs i x)
all_set P [] i x h p = h
all_set P (y ∷ ys) zero x h p = (p, h.1)
all_set P (y ∷ ys) (suc i) x h p = (h.0, all_set P ys i x h.1 p)

-- what holds of each element follows by its place
all_places : {A : Type 0} (P P' : A → Type 0) (xs : List A) → AllByRecursion P xs → ((j : ℕ) (y : A) → slice_get xs j ≡ Some y → P y → P' y) → AllByRecursion P' xs
all_places P P' [] h each = tt
all_places P P' (x ∷ xs) h each = (each 0 x refl h.0, all_places P P' xs h.1 (λ j y at. each (suc j) y at))

-- it holds of one that is put at a place, and it follows for each other
pub all_set_apart : {A : Type 0} (P P' : A → Type 0) (xs : List A) (i : ℕ) (x : A) → AllByRecursion P xs → ((j : ℕ) (y : A) → slice_get xs j ≡ Some y → (j ≡ i → ⊥) → P y → P' y) → P' x
    → AllByRecursion P' (set xs i x)
all_set_apart P P' [] i x h each p = tt
all_set_apart P P' (y ∷ ys) zero x h each p = (p, all_places P P' ys h.1 (λ j z at. each (suc j) z at (λ e. absurd (omega (arith, e)))))
all_set_apart P P' (y ∷ ys) (suc i) x h each p = (each 0 y refl (λ e. absurd (omega (arith, e))) h.0, all_set_apart P P' ys i x h.1 (λ j z at other. each (suc j) z at (λ e. other (omega (arith, e)))) p)

-- what is at a place after one is put there
pub set_seen : {A : Type 0} (xs : List A) (i j : ℕ) (x y : A) → slice_get (set xs i y) j ≡ Some x → ((j ≡ i) × (x ≡ y)) ⊎ (slice_get xs j ≡ Some x)
set_seen [] i j x y e = inr e
set_seen (z ∷ zs) zero zero x y e = inl (refl, sym (same_Some y x e))
set_seen (z ∷ zs) zero (suc j) x y e = inr e
set_seen (z ∷ zs) (suc i) zero x y e = inr e
set_seen (z ∷ zs) (suc i) (suc j) x y e = by (set_seen zs i j x y e)
  where
    by : ((j ≡ i) × (x ≡ y)) ⊎ (slice_get zs j ≡ Some x) → ((suc j ≡ suc i) × (x ≡ y)) ⊎ (slice_get zs j ≡ Some x)
    by (inl (a, b)) = inl (ap suc a, b)
    by (inr f) = inr f

pub not_changed : {X : Type 0} (q : X → Bool) (xs : List X) → change_first q (λ x. x) xs ≡ xs
not_changed q [] = refl
not_changed q (x ∷ xs) = by (not_changed q xs) (q x) refl
  where
    by : change_first q (λ x. x) xs ≡ xs → (b : Bool) → q x ≡ b → change_first q (λ x. x) (x ∷ xs) ≡ x ∷ xs
    by rest true e = rw e refl
    by rest false e = rw e (ap (λ zs. x ∷ zs) rest)

-- ---- the first that passes a test, in two lists

pub record First {A B : Type 0} (R : A → B → Type 0) (q : B → Bool) (xs : List A) (ys : List B) (i : ℕ) : Type 0 where
  pub x : A
  pub at : slice_get xs i ≡ Some x
  pub y : B
  pub found : find q ys ≡ Some y
  pub related : R x y
  pub put : (x' : A) (f : B → B) → R x' (f y) → AllZip R (set xs i x') (change_first q f ys)

none_some : {X : Type 0} (x : X) (o : Option X) → o ≡ None → o ≡ Some x → ⊥
none_some x None e f = cc
none_some x (Some y) e f = cc

module _ {A B : Type 0} (R : A → B → Type 0) (p : A → Bool) (q : B → Bool) (same : (x : A) (y : B) → R x y → p x ≡ q y) where
  first_from : (d : A) (xs : List A) (ys : List B) (i : ℕ) → AllZip R xs ys → i < length xs → p (get_or xs i d) ≡ true → ((k : ℕ) → k < i → p (get_or xs k d) ≡ false) → First R q xs ys i
  first_from d [] ys i z w t f = absurd (omega (arith, w))
  first_from d (x ∷ xs) [] i z w t f = absurd z
  first_from d (x ∷ xs) (y ∷ ys) zero z w t f =
      let here : q y ≡ true = sym (same x y z.0) ∙ t in
      record { x = x; at = refl; y = y; found = rw here refl; related = z.0; put = λ x' f r. rw here (r, z.1) }
  first_from d (x ∷ xs) (y ∷ ys) (suc i) z w t f =
      let rest = first_from d xs ys i z.1 (omega (arith, w)) t (λ k l. f (suc k) (omega (arith, l))) in
      let here : q y ≡ false = sym (same x y z.0) ∙ f zero (omega arith) in
      record { x = rest.x; at = rest.at; y = rest.y; found = rw here rest.found; related = rest.related; put = λ x' f r. rw here (z.0, rest.put x' f r) }

  pub first_of_both : (xs : List A) (ys : List B) (i : ℕ) → AllZip R xs ys → position p xs ≡ Some i → First R q xs ys i
  first_of_both [] ys i z e = cc
  first_of_both (x ∷ xs) ys i z e = let f = position-Some p (x ∷ xs) i x e in first_from x (x ∷ xs) ys i z f.0 f.1 f.2

  none_from : (xs : List A) (ys : List B) → AllZip R xs ys → length xs ≤ position_or_len p xs → (find q ys ≡ None) × ((f : B → B) → change_first q f ys ≡ ys)
  none_from [] [] z l = (refl, λ f. refl)
  none_from [] (y ∷ ys) z l = absurd z
  none_from (x ∷ xs) [] z l = absurd z
  none_from (x ∷ xs) (y ∷ ys) z l = by (none_from xs ys z.1) (p x) refl
    where
      by : (length xs ≤ position_or_len p xs → (find q ys ≡ None) × ((f : B → B) → change_first q f ys ≡ ys)) → (b : Bool) → p x ≡ b → (find q (y ∷ ys) ≡ None) × ((f : B → B) → change_first q f (y ∷ ys) ≡ y ∷ ys)
      by rest true e = absurd (omega (arith, rw e at l))
      by rest false e =
          let here : q y ≡ false = sym (same x y z.0) ∙ e in
          let none = rest (omega (arith, rw e at l)) in
          (rw here none.0, λ f. rw here (ap (λ zs. y ∷ zs) (none.1 f)))

  -- none passes
  pub none_of_both : (xs : List A) (ys : List B) → AllZip R xs ys → position p xs ≡ None → (find q ys ≡ None) × ((f : B → B) → change_first q f ys ≡ ys)
  none_of_both xs ys z e = none_from xs ys z (by (nat_lt (position_or_len p xs) (length xs)) refl)
    where
      by : (b : Bool) → nat_lt (position_or_len p xs) (length xs) ≡ b → length xs ≤ position_or_len p xs
      by true t = absurd (none_some (position_or_len p xs) (position p xs) e (rw t refl))
      by false t = ltb-false _ _ t

-- ---- the first of these costs that is this one

remove_from : (cost d : ℕ) (xs : List ℕ) (i : ℕ) → i < length xs → (get_or xs i d == cost) ≡ true → ((k : ℕ) → k < i → (get_or xs k d == cost) ≡ false)
    → (remove xs i ≡ without_first cost xs) × (list_any (λ c. c == cost) xs ≡ true) × (length (without_first cost xs) + 1 ≡ length xs)
remove_from cost d [] i w t f = absurd (omega (arith, w))
remove_from cost d (x ∷ xs) zero w t f = (rw t refl, rw t refl, rw t (omega arith))
remove_from cost d (x ∷ xs) (suc i) w t f =
    let rest = remove_from cost d xs i (omega (arith, w)) t (λ k l. f (suc k) (omega (arith, l))) in
    let here : (x == cost) ≡ false = f zero (omega arith) in
    (rw here (ap (λ zs. x ∷ zs) rest.0), rw here rest.1, rw here (omega (arith, rest.2)))

-- it is found, and taken out by its place
pub removed : (cost : ℕ) (xs : List ℕ) (i : ℕ) → position (λ c. c == cost) xs ≡ Some i
    → (remove xs i ≡ without_first cost xs) × (list_any (λ c. c == cost) xs ≡ true) × (length (without_first cost xs) + 1 ≡ length xs)
removed cost xs i e = let f = position-Some (λ c. c == cost) xs i 0 e in remove_from cost 0 xs i f.0 f.1 f.2

none_any_from : (cost : ℕ) (xs : List ℕ) → length xs ≤ position_or_len (λ c. c == cost) xs → list_any (λ c. c == cost) xs ≡ false
none_any_from cost [] l = refl
none_any_from cost (x ∷ xs) l = by (none_any_from cost xs) (x == cost) refl
  where
    by : (length xs ≤ position_or_len (λ c. c == cost) xs → list_any (λ c. c == cost) xs ≡ false) → (b : Bool) → (x == cost) ≡ b → list_any (λ c. c == cost) (x ∷ xs) ≡ false
    by rest true e = absurd (omega (arith, rw e at l))
    by rest false e = rw e (rest (omega (arith, rw e at l)))

-- it is not there
pub none_any : (cost : ℕ) (xs : List ℕ) → position (λ c. c == cost) xs ≡ None → list_any (λ c. c == cost) xs ≡ false
none_any cost xs e = none_any_from cost xs (by (nat_lt (position_or_len (λ c. c == cost) xs) (length xs)) refl)
  where
    by : (b : Bool) → nat_lt (position_or_len (λ c. c == cost) xs) (length xs) ≡ b → length xs ≤ position_or_len (λ c. c == cost) xs
    by true t = absurd (none_some (position_or_len (λ c. c == cost) xs) (position (λ c. c == cost) xs) e (rw t refl))
    by false t = ltb-false _ _ t

-- one that is there is taken out
pub removed_any : (cost : ℕ) (xs : List ℕ) → list_any (λ c. c == cost) xs ≡ true → length (without_first cost xs) + 1 ≡ length xs
removed_any cost [] e = cc
removed_any cost (x ∷ xs) e = by (removed_any cost xs) (x == cost) refl
  where
    by : (list_any (λ c. c == cost) xs ≡ true → length (without_first cost xs) + 1 ≡ length xs) → (b : Bool) → (x == cost) ≡ b → length (without_first cost (x ∷ xs)) + 1 ≡ length (x ∷ xs)
    by rest true f = rw f (omega arith)
    by rest false f = let l = rest (rw f at e) in rw f (omega arith)

-- ---- what is found, by its place

pub found_at : {X : Type 0} (p : X → Bool) (xs : List X) (i : ℕ) → position p xs ≡ Some i → find p xs ≡ slice_get xs i
found_at p xs i e = find_at p xs ∙ ap (slice_get xs) (by (nat_lt (position_or_len p xs) (length xs)) e)
  where
    by : (b : Bool) → cond b (Some (position_or_len p xs)) None ≡ Some i → position_or_len p xs ≡ i
    by true f = same_Some _ _ f
    by false f = cc

pub found_none : {X : Type 0} (p : X → Bool) (xs : List X) → position p xs ≡ None → find p xs ≡ None
found_none p xs e = find_at p xs ∙ slice_get_past xs (position_or_len p xs) (by (nat_lt (position_or_len p xs) (length xs)) refl)
  where
    by : (b : Bool) → nat_lt (position_or_len p xs) (length xs) ≡ b → length xs ≤ position_or_len p xs
    by true t = absurd (none_some (position_or_len p xs) (position p xs) e (rw t refl))
    by false t = ltb-false _ _ t

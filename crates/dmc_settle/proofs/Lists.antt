-- Lists by places.
use Rattle.std.proofs.Common.{◌≡◌, ℕ, zero, suc, ◌+◌, ◌<◌, List, [], ◌∷◌, ◌++◌, Some, length, map, take, get_or, set, slice_get, refl, sym, ap, ◌∙◌, arith, not, eqb, true}
use Rattle.std.proofs.lemmas.Bool.{eq-eqb, false≢true}
use Rattle.std.proofs.lemmas.List.{get_or-map, get_or_append_left, get_or_push, length-append, length-map, take_all}
use Rattle.std.proofs.lemmas.Option.{get_or_from_slice_get, slice_get-get_or, slice_get_within}

-- of a list that is seen otherwise
module _ {X Y : Type 0} (f : X → Y) (xs : List X) (i : ℕ) (x : X) (within : i < length xs) (at : x ≡ get_or xs i x) where
  pub got_seen : (y : Y) → slice_get (map f xs) i ≡ Some y → f x ≡ y
  got_seen y h = ap f at ∙ sym (get_or-map f xs i x y within) ∙ get_or_from_slice_get (map f xs) i y y h

  pub there_seen : slice_get (map f xs) i ≡ Some (f x)
  there_seen = slice_get-get_or (map f xs) i (f x) (omega (arith, within, length-map xs f)) ∙ ap Some (get_or-map f xs i x (f x) within ∙ ap f (sym at))

-- two numbers that are not the same
pub differ : (a b : ℕ) → not (eqb a b) ≡ true → a ≡ b → ⊥
differ a b h e = false≢true (sym (ap not (eq-eqb a b e)) ∙ h)

-- two lists that are seen as one
module _ {X Y Z : Type 0} (f : X → Z) (g : Y → Z) (xs : List X) (ys : List Y) where
  pub alike_at : (i : ℕ) (d : X) (e : Y) → i < length xs → i < length ys → map f xs ≡ map g ys → f (get_or xs i d) ≡ g (get_or ys i e)
  alike_at i d e in_xs in_ys h = sym (get_or-map f xs i d (f d) in_xs) ∙ ap (λ zs. get_or zs i (f d)) h ∙ get_or-map g ys i e (f d) in_ys

  pub alike_all : (i : ℕ) → length xs ≡ i → length ys ≡ i → map f (take i xs) ≡ map g (take i ys) → map f xs ≡ map g ys
  alike_all i long_xs long_ys h = ap (map f) (sym (take_all i xs (omega (arith, long_xs)))) ∙ h ∙ ap (map g) (take_all i ys (omega (arith, long_ys)))

  pub alike_long : map f xs ≡ map g ys → length xs ≡ length ys
  alike_long h = sym (length-map xs f) ∙ ap length h ∙ length-map ys g

-- a write that is seen as what stood there
pub map_kept : {X Y : Type 0} (f : X → Y) (xs : List X) (i : ℕ) (x e : X) → i < length xs → f x ≡ f (get_or xs i e) → map f (set xs i x) ≡ map f xs
map_kept f [] i x e within h = absurd (omega (arith, within))
map_kept f (y ∷ ys) zero x e within h = ap (λ z. z ∷ map f ys) h
map_kept f (y ∷ ys) (suc i) x e within h = ap (λ zs. f y ∷ zs) (map_kept f ys i x e (omega (arith, within)) h)

-- what a pop leaves, and what it takes
pub popped_left : {X : Type 0} (old new : List X) (x d : X) → old ≡ new ++ x ∷ [] → (k : ℕ) → k < length new → get_or new k d ≡ get_or old k d
popped_left old new x d e k within = sym (ap (λ xs. get_or xs k d) e ∙ get_or_append_left new (x ∷ []) d k within)

pub popped_last : {X : Type 0} (old new : List X) (x d : X) (i : ℕ) → old ≡ new ++ x ∷ [] → length new ≡ i → get_or old i d ≡ x
popped_last old new x d i e long = ap (λ xs. get_or xs i d) e ∙ get_or_push new x d i long

pub popped_long : {X : Type 0} (old new : List X) (x : X) → old ≡ new ++ x ∷ [] → length old ≡ length new + 1
popped_long old new x e = ap length e ∙ length-append new (x ∷ [])

-- what is found, of a list that is seen otherwise
pub seen_at : {X Y : Type 0} (f : X → Y) (xs : List X) (k : ℕ) (x : X) (e : Y) → slice_get xs k ≡ Some x → get_or (map f xs) k e ≡ f x
seen_at f xs k x e h = get_or-map f xs k x e (slice_get_within xs k x h) ∙ ap f (get_or_from_slice_get xs k x x h)

-- two lists that are seen as one at each place
pub alike_places : {X Y Z : Type 0} (f : X → Z) (g : Y → Z) (xs : List X) (ys : List Y) (d : X) (e : Y) → length xs ≡ length ys
    → ((k : ℕ) → k < length xs → f (get_or xs k d) ≡ g (get_or ys k e)) → map f xs ≡ map g ys
alike_places f g [] [] d e long each = refl
alike_places f g [] (y ∷ ys) d e long each = absurd (omega (arith, long))
alike_places f g (x ∷ xs) [] d e long each = absurd (omega (arith, long))
alike_places f g (x ∷ xs) (y ∷ ys) d e long each =
    ap (λ z. z ∷ map f xs) (each zero (omega arith))
    ∙ ap (λ zs. g y ∷ zs) (alike_places f g xs ys d e (omega (arith, long)) (λ k within. each (suc k) (omega (arith, within))))

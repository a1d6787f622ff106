-- Lists: what holds of each element after a change of the list, what is found, how many a filter leaves, parts and maps.
use Rattle.std.proofs.Common.{◌≡◌, ◌≢◌, ℕ, zero, suc, ◌+◌, ◌<◌, ◌≤◌, Bool, true, false, not, ◌&&◌, cond, List, [], ◌∷◌, ◌++◌, map, take, length, set, slice_get, Option, Some, refl, ap, ◌∙◌, subst, arith}
use Rattle.std.specs.Prelude.{filter}
use Rattle.std.specs.List.{find, position, prefix_len, list_all, AllByRecursion}
use Rattle.std.proofs.lemmas.List.{length-map}

pub all_as : {X : Type 0} (P Q : X → Type 0) → ((x : X) → P x → Q x) → (xs : List X) → AllByRecursion P xs → AllByRecursion Q xs
all_as P Q gives [] h = tt
all_as P Q gives (x ∷ xs) h = (gives x h.0, all_as P Q gives xs h.1)

pub all_both : {X : Type 0} (P Q : X → Type 0) (xs : List X) → AllByRecursion P xs → AllByRecursion Q xs → AllByRecursion (λ x. P x × Q x) xs
all_both P Q [] h k = tt
all_both P Q (x ∷ xs) h k = ((h.0, k.0), all_both P Q xs h.1 k.1)

pub all_filtered : {X : Type 0} (P : X → Type 0) (test : X → Bool) (xs : List X) → AllByRecursion P xs → AllByRecursion P (filter test xs)
all_filtered P test [] h = tt
all_filtered P test (x ∷ xs) h = at (all_filtered P test xs h.1) (test x) where
  at : AllByRecursion P (filter test xs) → (b : Bool) → AllByRecursion P (cond b (x ∷ filter test xs) (filter test xs))
  at more true = (h.0, more)
  at more false = more

pub all_mapped : {X Y : Type 0} (P : X → Type 0) (Q : Y → Type 0) (f : X → Y) → ((x : X) → P x → Q (f x)) → (xs : List X) → AllByRecursion P xs → AllByRecursion Q (map f xs)
all_mapped P Q f gives [] h = tt
all_mapped P Q f gives (x ∷ xs) h = (gives x h.0, all_mapped P Q f gives xs h.1)

pub each_passes : {X : Type 0} (test : X → Bool) (xs : List X) → list_all test xs ≡ true → AllByRecursion (λ x. test x ≡ true) xs
each_passes test [] e = tt
each_passes test (x ∷ xs) e = at (test x) refl e (each_passes test xs) where
  at : (b : Bool) → test x ≡ b → (b && list_all test xs) ≡ true → (list_all test xs ≡ true → AllByRecursion (λ x. test x ≡ true) xs) → (test x ≡ true) × AllByRecursion (λ x. test x ≡ true) xs
  at true t e more = (t, more e)
  at false t e more = cc

pub all_append : {X : Type 0} (P : X → Type 0) (xs ys : List X) → AllByRecursion P xs → AllByRecursion P ys → AllByRecursion P (xs ++ ys)
all_append P [] ys h k = k
all_append P (x ∷ xs) ys h k = (h.0, all_append P xs ys h.1 k)

-- ---- two lists together

pub all_first : {X : Type 0} (P : X → Type 0) (xs ys : List X) → AllByRecursion P (xs ++ ys) → AllByRecursion P xs
all_first P [] ys h = tt
all_first P (x ∷ xs) ys h = (h.0, all_first P xs ys h.1)

pub all_second : {X : Type 0} (P : X → Type 0) (xs ys : List X) → AllByRecursion P (xs ++ ys) → AllByRecursion P ys
all_second P [] ys h = h
all_second P (x ∷ xs) ys h = all_second P xs ys h.1

pub all_next : {X : Type 0} (P : X → Type 0) (xs : List X) (y : X) → AllByRecursion P xs → P y → AllByRecursion P (xs ++ y ∷ [])
all_next P xs y h k = all_append P xs (y ∷ []) h (k, tt)

-- ---- one element among others

module _ {X : Type 0} (P : X → Type 0) where
  pub all_joined : (front : List X) (x : X) (back : List X) → AllByRecursion P front → P x → AllByRecursion P back → AllByRecursion P (front ++ x ∷ back)
  all_joined [] x back a p b = (p, b)
  all_joined (y ∷ front) x back a p b = (a.0, all_joined front x back a.1 p b)

  pub all_at : (front : List X) (x : X) (back : List X) → AllByRecursion P (front ++ x ∷ back) → P x
  all_at [] x back a = a.0
  all_at (y ∷ front) x back a = all_at front x back a.1

  pub all_without : (front : List X) (x : X) (back : List X) → AllByRecursion P (front ++ x ∷ back) → AllByRecursion P (front ++ back)
  all_without [] x back a = a.1
  all_without (y ∷ front) x back a = (a.0, all_without front x back a.1)

-- ---- what is at a place

module _ {X : Type 0} where
  pub slice_get-set_same : (xs : List X) (i : ℕ) (y : X) → i < length xs → slice_get (set xs i y) i ≡ Some y
  slice_get-set_same [] i y l = absurd (omega arith)
  slice_get-set_same (x ∷ xs) zero y l = refl
  slice_get-set_same (x ∷ xs) (suc i) y l = slice_get-set_same xs i y (omega arith)

  pub slice_get-set_other : (xs : List X) (i j : ℕ) (y : X) → j ≢ i → slice_get (set xs i y) j ≡ slice_get xs j
  slice_get-set_other [] i j y ne = refl
  slice_get-set_other (x ∷ xs) zero zero y ne = absurd (ne refl)
  slice_get-set_other (x ∷ xs) zero (suc j) y ne = refl
  slice_get-set_other (x ∷ xs) (suc i) zero y ne = refl
  slice_get-set_other (x ∷ xs) (suc i) (suc j) y ne = slice_get-set_other xs i j y (λ e. ne (ap suc e))

  pub slice_get-append : (xs ys : List X) (i : ℕ) (x : X) → slice_get xs i ≡ Some x → slice_get (xs ++ ys) i ≡ Some x
  slice_get-append [] ys i x h = cc
  slice_get-append (x' ∷ xs) ys zero x h = h
  slice_get-append (x' ∷ xs) ys (suc i) x h = slice_get-append xs ys i x h

  pub slice_get-push : (xs : List X) (y : X) → slice_get (xs ++ y ∷ []) (length xs) ≡ Some y
  slice_get-push [] y = refl
  slice_get-push (x ∷ xs) y = slice_get-push xs y

-- ---- what is found, and how many are left

pub found_holds : {X : Type 0} (P : X → Type 0) (test : X → Bool) (xs : List X) (e : X) → AllByRecursion P xs → find test xs ≡ Some e → P e
found_holds P test [] e h f = cc
found_holds P test (x ∷ xs) e h f = at (test x) f (found_holds P test xs e h.1) where
  at : (b : Bool) → cond b (Some x) (find test xs) ≡ Some e → (find test xs ≡ Some e → P e) → P e
  at true g more = let same : x ≡ e = cc in subst P same h.0
  at false g more = more g

-- if the first does not pass
pub found_later : {X : Type 0} (x : X) (rest : Option X) (e : X) (b : Bool) → cond b (Some x) rest ≡ Some e → b ≡ false → rest ≡ Some e
found_later x rest e true h t = cc
found_later x rest e false h t = h

pub found_passes : {X : Type 0} (test : X → Bool) (xs : List X) (e : X) → find test xs ≡ Some e → test e ≡ true
found_passes test [] e f = cc
found_passes test (x ∷ xs) e f = at (found_passes test xs e) (test x) refl f where
  at : (find test xs ≡ Some e → test e ≡ true) → (b : Bool) → test x ≡ b → cond b (Some x) (find test xs) ≡ Some e → test e ≡ true
  at more true t g = let same : x ≡ e = cc in subst (λ y. test y ≡ true) same t
  at more false t g = more g

pub length_filtered : {X : Type 0} (test : X → Bool) (xs : List X) → length (filter test xs) ≤ length xs
length_filtered test [] = omega arith
length_filtered test (x ∷ xs) = at (length_filtered test xs) (test x) where
  at : length (filter test xs) ≤ length xs → (b : Bool) → length (cond b (x ∷ filter test xs) (filter test xs)) ≤ suc (length xs)
  at more true = omega arith
  at more false = omega arith

-- ---- maps, and the front of a list

pub map_unmoved : {X : Type 0} (f : X → X) (xs : List X) → AllByRecursion (λ x. f x ≡ x) xs → map f xs ≡ xs
map_unmoved f [] h = refl
map_unmoved f (x ∷ xs) h = ap (λ y. y ∷ map f xs) h.0 ∙ ap (λ ys. x ∷ ys) (map_unmoved f xs h.1)

prefix_map : {A B : Type 0} (f : A → B) (p : B → Bool) (xs : List A) → prefix_len p (map f xs) ≡ prefix_len (λ x. p (f x)) xs
prefix_map f p [] = refl
prefix_map f p (x ∷ xs) = ap (λ k. cond (p (f x)) (1 + k) 0) (prefix_map f p xs)

-- where such a thing is first, of a list that is seen otherwise
pub position_map : {A B : Type 0} (f : A → B) (p : B → Bool) (xs : List A) → position p (map f xs) ≡ position (λ x. p (f x)) xs
position_map f p xs = rw (prefix_map f (λ y. not (p y)) xs, length-map xs f) refl

-- a whole that was lent as a slice, and given back
pub lent_back : {X : Type 0} (xs zs : List X) (n : ℕ) → length xs ≡ n → take n (xs ++ zs) ≡ xs
lent_back [] zs n e = rw (← e) refl
lent_back (x ∷ xs) zs n e = rw (← e) (ap (λ ys. x ∷ ys) (lent_back xs zs (length xs) refl))

-- Finite maps from keys, as lists of what each key below a capacity holds.
use Rattle.std.proofs.Common.{◌≡◌, ◌≢◌, ℕ, zero, suc, ◌+◌, ◌<◌, List, [], ◌∷◌, ◌++◌, map, Option, Some, None, length, get_or, set, replicate, count_by, is_some, cond, refl, ap, ◌∙◌, ⊎_elim, arith}
use Rattle.std.specs.Option.{option_map}
use Rattle.std.proofs.lemmas.Bool.{cases_lt}
use Rattle.std.proofs.lemmas.List.{length-set, length-replicate, get_or-set_other, get_or-replicate, get_or_past}
use Rattle.std.proofs.lemmas.List.Sums.{sum_by-set, count_by-le-length}
use Rattle.dmc_index.specs.Index.{slot_of_key}

pub slot_of_key-map : {X Y : Type 0} (f : X → Y) (slots : List (Option X)) (key : ℕ) → slot_of_key (map (option_map f) slots) key ≡ option_map f (slot_of_key slots key)
slot_of_key-map f [] key = refl
slot_of_key-map f (x ∷ slots) zero = refl
slot_of_key-map f (x ∷ slots) (suc key) = slot_of_key-map f slots key

pub some_if_mapped : {X Y : Type 0} (f : X → Y) (o : Option X) (y : Y) → option_map f o ≡ Some y → (x : X) × (o ≡ Some x) × (f x ≡ y)
some_if_mapped f None y e = cc
some_if_mapped f (Some x) y e = let same : f x ≡ y = cc in (x, refl, same)

-- what a map makes of one key
pub map_set : {X Y : Type 0} (f : X → Y) (slots : List (Option X)) (key : ℕ) (o : Option X) → map (option_map f) (set slots key o) ≡ set (map (option_map f) slots) key (option_map f o)
map_set f [] key o = refl
map_set f (x ∷ slots) zero o = refl
map_set f (x ∷ slots) (suc key) o = ap (λ zs. option_map f x ∷ zs) (map_set f slots key o)

module _ {X : Type 0} where
  pub slot_of_key-replicate : (n key : ℕ) → slot_of_key {R = X} (replicate n None) key ≡ None
  slot_of_key-replicate n key = ⊎_elim (λ l. get_or-replicate n key None None l) (λ l. get_or_past (replicate n None) key None (rw length-replicate l)) (cases_lt key n)

  pub slot_of_key-set_other : (slots : List (Option X)) (key k : ℕ) (o : Option X) → k ≢ key → slot_of_key (set slots key o) k ≡ slot_of_key slots k
  slot_of_key-set_other slots key k o ne = get_or-set_other slots key k o None ne

  -- two maps with one capacity that hold the same
  pub same_slots : (xs ys : List (Option X)) → length xs ≡ length ys → ((key : ℕ) → slot_of_key xs key ≡ slot_of_key ys key) → xs ≡ ys
  same_slots [] [] e h = refl
  same_slots [] (y ∷ ys) e h = absurd (omega arith)
  same_slots (x ∷ xs) [] e h = absurd (omega arith)
  same_slots (x ∷ xs) (y ∷ ys) e h =
      ap (λ z. z ∷ xs) (h 0) ∙ ap (λ zs. y ∷ zs) (same_slots xs ys (omega arith) (λ key. h (suc key)))

  -- more capacity holds nothing
  pub slot_of_key-more : (slots : List (Option X)) (n key : ℕ) → slot_of_key (slots ++ replicate n None) key ≡ slot_of_key slots key
  slot_of_key-more [] zero key = refl
  slot_of_key-more [] (suc n) zero = refl
  slot_of_key-more [] (suc n) (suc key) = slot_of_key-more [] n key
  slot_of_key-more (x ∷ slots) n zero = refl
  slot_of_key-more (x ∷ slots) n (suc key) = slot_of_key-more slots n key

  -- a vacant key that is written makes one more
  pub count-set_some : (slots : List (Option X)) (key : ℕ) (x : X) → key < length slots → slot_of_key slots key ≡ None → count_by is_some (set slots key (Some x)) ≡ count_by is_some slots + 1
  count-set_some slots key x l h =
      let none : ◌≡◌ {A = ℕ} (cond (is_some (get_or slots key None)) 1 0) 0 = ap (λ (o : Option X). cond (is_some o) 1 0) h in
      omega (arith, none, sum_by-set (λ (o : Option X). cond (is_some o) 1 0) slots key (Some x) None l)

  -- a map with a vacant key holds fewer keys than its capacity
  pub count_below : (slots : List (Option X)) (key : ℕ) (x : X) → key < length slots → slot_of_key slots key ≡ None → count_by is_some slots < length slots
  count_below slots key x l h =
      omega (arith, count-set_some slots key x l h, count_by-le-length is_some (set slots key (Some x)), length-set slots key (Some x))

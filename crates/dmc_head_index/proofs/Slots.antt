-- Finite maps from keys, as lists of what each key below a capacity holds.
use Rattle.std.proofs.Common.{◌≡◌, ℕ, zero, suc, ◌+◌, ◌<◌, ◌≤◌, List, [], ◌∷◌, Option, Some, None, length, set, count_by, is_some, cond, refl, sym, ap, ◌∙◌, inl, inr, arith, IsSome}
use Rattle.std.specs.Option.{option_map}
use Rattle.std.proofs.lemmas.Bool.{cases_lt, cases_eq}
use Rattle.std.proofs.lemmas.List.Sums.{sum_by-cons}
use Rattle.std.proofs.lemmas.List.{get_or_past, get_or-set_same}
use Rattle.dmc_index.specs.Index.{slot_of_key}
use Rattle.dmc_lemmas.proofs.Options.{option_cases}
pub use Rattle.dmc_lemmas.proofs.Options.{is_some_mapped}
pub use Rattle.dmc_index.proofs.Slots.{same_slots, slot_of_key-more, slot_of_key-set_other, slot_of_key-map, some_if_mapped, map_set}

pub some_of : {X : Type 0} (o : Option X) → IsSome o → (x : X) × (o ≡ Some x)
some_of None h = cc
some_of (Some x) h = (x, refl)

pub none_if_mapped : {X Y : Type 0} (f : X → Y) (o : Option X) → option_map f o ≡ None → o ≡ None
none_if_mapped f None e = refl
none_if_mapped f (Some x) e = cc

module _ {X : Type 0} where
  -- a key that holds something is below the capacity
  pub within : (slots : List (Option X)) (key : ℕ) (x : X) → slot_of_key slots key ≡ Some x → key < length slots
  within slots key x h =
      elim (cases_lt key (length slots)) [ inl l ↦ l | inr l ↦ let none = get_or_past slots key None l in cc ]

  pub slot_of_key-set_same : (slots : List (Option X)) (key : ℕ) (o : Option X) → key < length slots → slot_of_key (set slots key o) key ≡ o
  slot_of_key-set_same slots key o l = get_or-set_same slots key o None l

  -- a key's value replaced by what it is
  pub set-slot_of_key : (slots : List (Option X)) (key : ℕ) → set slots key (slot_of_key slots key) ≡ slots
  set-slot_of_key [] key = refl
  set-slot_of_key (x ∷ slots) zero = refl
  set-slot_of_key (x ∷ slots) (suc key) = ap (λ zs. x ∷ zs) (set-slot_of_key slots key)

  count_none : (slots : List (Option X)) → ((key : ℕ) → slot_of_key slots key ≡ None) → count_by is_some slots ≡ 0
  count_none [] h = refl
  count_none (None ∷ slots) h = count_none slots (λ key. h (suc key))
  count_none (Some x ∷ slots) h = let no : Some x ≡ None = h 0 in cc

  pub none_if_count_zero : (slots : List (Option X)) → count_by is_some slots ≡ 0 → (key : ℕ) → slot_of_key slots key ≡ None
  none_if_count_zero [] e key = refl
  none_if_count_zero (None ∷ slots) e zero = refl
  none_if_count_zero (None ∷ slots) e (suc key) = none_if_count_zero slots e key
  none_if_count_zero (Some x ∷ slots) e key = absurd (omega (arith, sum_by-cons (λ (o : Option X). cond (is_some o) 1 0) (Some x) slots))

module _ {X Y : Type 0} where
  -- two maps with the same keys have one number of keys
  pub count_same : (xs : List (Option X)) (ys : List (Option Y)) → ((key : ℕ) → is_some (slot_of_key xs key) ≡ is_some (slot_of_key ys key)) → count_by is_some xs ≡ count_by is_some ys
  count_same [] ys h = sym (count_none ys (λ key. option_cases (slot_of_key ys key) (λ none. none) (λ y some. let no = h key in cc (ap is_some some))))
  count_same (x ∷ xs) [] h = count_none (x ∷ xs) (λ key. option_cases (slot_of_key (x ∷ xs) key) (λ none. none) (λ y some. let no = h key in cc (ap is_some some)))
  count_same (x ∷ xs) (y ∷ ys) h =
      let first : ◌≡◌ {A = ℕ} (cond (is_some x) 1 0) (cond (is_some y) 1 0) = ap (λ b. cond b 1 0) (h 0) in
      let rest = count_same xs ys (λ key. h (suc key)) in
      omega (arith, first, rest, sum_by-cons (λ (o : Option X). cond (is_some o) 1 0) x xs, sum_by-cons (λ (o : Option Y). cond (is_some o) 1 0) y ys)

-- ---- a pass over the keys, which maps what each holds

module _ {X : Type 0} (f : X → X) where
  slot_of_key-set_mapped : (slots : List (Option X)) (key : ℕ) → slot_of_key (set slots key (option_map f (slot_of_key slots key))) key ≡ option_map f (slot_of_key slots key)
  slot_of_key-set_mapped [] key = refl
  slot_of_key-set_mapped (x ∷ slots) zero = refl
  slot_of_key-set_mapped (x ∷ slots) (suc key) = slot_of_key-set_mapped slots key

  module _ (old now : List (Option X)) (n : ℕ) (rest : (k : ℕ) → n ≤ k → slot_of_key now k ≡ slot_of_key old k) where
    -- one key more is done
    pub mapped_more : ((k : ℕ) → k < n → slot_of_key now k ≡ option_map f (slot_of_key old k)) → (k : ℕ) → k < n + 1 → slot_of_key (set now n (option_map f (slot_of_key now n))) k ≡ option_map f (slot_of_key old k)
    mapped_more done k l =
        elim (cases_eq k n) [
          | inl e ↦
              ap (slot_of_key (set now n (option_map f (slot_of_key now n)))) e
              ∙ slot_of_key-set_mapped now n
              ∙ ap (option_map f) (rest n (omega arith))
              ∙ ap (λ j. option_map f (slot_of_key old j)) (sym e)
          | inr ne ↦ slot_of_key-set_other now n k (option_map f (slot_of_key now n)) ne ∙ done k (omega arith)
        ]

    -- the others are as they were
    pub rest_stays : (o : Option X) (k : ℕ) → n + 1 ≤ k → slot_of_key (set now n o) k ≡ slot_of_key old k
    rest_stays o k l = slot_of_key-set_other now n k o (omega arith) ∙ rest k (omega arith)

-- Elements read by their indexes: the first request and those after it, and a test of all from an index on.
use Rattle.std.proofs.Common.{◌≡◌, ◌≢◌, ℕ, zero, suc, ◌+◌, ◌-◌, ◌<◌, Bool, true, false, ◌&&◌, List, [], slice_get, length, drop, get_or, Option, Some, None, Bor, refl, ap, sym, ◌∙◌, arith}
use Rattle.std.specs.List.{cons_option, list_all}
use Rattle.std.specs.Option.{option_copied}
use Rattle.std.specs.Slice.{IsItemAt}
use Rattle.std.proofs.lemmas.List.{at_drop_more}
use Rattle.std.proofs.lemmas.Option.{slice_get_past, slice_get_read}

module _ {A : Type 0} where
  pub read_first : (first : Option A) (later : List A) → (first ≡ None → later ≡ []) → first ≡ slice_get (cons_option first later) 0
  read_first None later none = sym (ap (λ xs. slice_get xs 0) (none refl))
  read_first (Some x) later none = refl

  read_empty : (i j : ℕ) (xs : List A) → xs ≡ [] → slice_get xs i ≡ slice_get xs j
  read_empty i j xs e = ap (λ ys. slice_get ys i) e ∙ sym (ap (λ ys. slice_get ys j) e)

  pub read_behind : (first : Option A) (later : List A) (i : ℕ) → (first ≡ None → later ≡ []) → i ≢ 0 → slice_get later (i - 1) ≡ slice_get (cons_option first later) i
  read_behind None later i none other = read_empty (i - 1) i later (none refl)
  read_behind (Some x) later zero none other = absurd (other refl)
  read_behind (Some x) later (suc i) none other = let before : suc i - 1 ≡ i = omega arith in ap (slice_get later) before

  pub read_copied : (xs : List A) (i : ℕ) (found : Option (Bor A)) → IsItemAt xs i found → option_copied found ≡ slice_get xs i
  read_copied xs i None is = sym (slice_get_past xs i is.3)
  read_copied xs i (Some x) is = sym (slice_get_read xs (length xs) i x.now refl is.3.0 is.1)

  -- of those from an index on all pass if the first of them does and the others do
  all_from : (p : A → Bool) (xs : List A) (i : ℕ) (x : A) → i < length xs → x ≡ get_or xs i x → list_all p (drop i xs) ≡ (p x && list_all p (drop (i + 1) xs))
  all_from p xs i x within read = at_drop_more (list_all p) xs i x within ∙ ap (λ y. p y && list_all p (drop (i + 1) xs)) (sym read)

  pub fails_at : (p : A → Bool) (xs : List A) (i : ℕ) (x : A) (all : Bool) → i < length xs → x ≡ get_or xs i x → list_all p (drop i xs) ≡ all → p x ≡ false → false ≡ all
  fails_at p xs i x all within read so_far fails = ap (λ b. b && list_all p (drop (i + 1) xs)) (sym fails) ∙ sym (all_from p xs i x within read) ∙ so_far

  pub passes_at : (p : A → Bool) (xs : List A) (i : ℕ) (x : A) (all : Bool) → i < length xs → x ≡ get_or xs i x → list_all p (drop i xs) ≡ all → p x ≡ true → list_all p (drop (i + 1) xs) ≡ all
  passes_at p xs i x all within read so_far passes = ap (λ b. b && list_all p (drop (i + 1) xs)) (sym passes) ∙ sym (all_from p xs i x within read) ∙ so_far

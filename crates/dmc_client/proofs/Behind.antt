-- The first request and those behind it, as calls read, add, take out or change them.
use Rattle.std.proofs.Common.{◌≡◌, Bool, true, false, ◌&&◌, not, List, [], ◌∷◌, ◌++◌, map, drop, length, Option, Some, None, refl, ap, sym, ◌∙◌, arith}
use Rattle.std.specs.Prelude.{if◌then◌else◌, is_some, is_none, is_ok, option_to_list, Result}
use Rattle.std.specs.List.{cons_option, list_all}
use Rattle.std.proofs.lemmas.Bool.{false≢true}

module _ {A : Type 0} where
  -- ---- what the first says of the whole

  no_none : (x : A) → Some x ≡ None → ⊥
  no_none x e = false≢true (ap is_none e)

  none_stored : (first : Option A) (later view : List A) → (first ≡ None → later ≡ []) → cons_option first later ≡ view → first ≡ None → view ≡ []
  none_stored None later view none v e = sym v ∙ none refl
  none_stored (Some x) later view none v e = absurd (no_none x e)

  some_stored : (first : Option A) (x : A) (later view : List A) → cons_option first later ≡ view → first ≡ Some x → view ≡ x ∷ later
  some_stored first x later view v e = sym v ∙ ap (λ o. cons_option o later) e

  pub without_first : (first : Option A) (later : List A) → (first ≡ None → later ≡ []) → drop 1 (cons_option first later) ≡ later
  without_first None later none = ap (drop 1) (none refl) ∙ sym (none refl)
  without_first (Some x) later none = refl

  -- ---- one is taken out, and the next comes first

  pub popped_empty : (next : Option A) (later rest : List A) → later ≡ option_to_list next ++ rest → rest ≡ drop 1 later → next ≡ None → rest ≡ []
  popped_empty next later [] items less e = refl
  popped_empty None later (x ∷ rest) items less e = let longer : length (x ∷ rest) ≡ length rest = ap length (less ∙ ap (drop 1) items) in absurd (omega arith)
  popped_empty (Some y) later (x ∷ rest) items less e = absurd (no_none y e)

  pub next_first : (next : Option A) (rest : List A) → cons_option next rest ≡ option_to_list next ++ rest
  next_first None rest = refl
  next_first (Some x) rest = refl

  pub popped_rest : (first next : Option A) (later rest view : List A) → (first ≡ None → later ≡ []) → cons_option first later ≡ view → later ≡ option_to_list next ++ rest →
      cons_option next rest ≡ drop 1 view
  popped_rest first next later rest view none v items = next_first next rest ∙ sym items ∙ sym (without_first first later none) ∙ ap (drop 1) v

  -- ---- one is added

  pub some_first : (x : A) (later : List A) → Some x ≡ None → later ≡ []
  some_first x later e = absurd (no_none x e)

  pub still_first : (first : Option A) (is_none : Bool) (later : List A) → is_some first ≡ not is_none → is_none ≡ false → first ≡ None → later ≡ []
  still_first first is_none later is test e = absurd (false≢true (sym (ap is_some e) ∙ is ∙ ap not test))

  pub pushed_first : (first : Option A) (is_none : Bool) (later view : List A) (x : A) → (first ≡ None → later ≡ []) → cons_option first later ≡ view →
      is_some first ≡ not is_none → is_none ≡ true → x ∷ later ≡ view ++ x ∷ []
  pushed_first None is_none later view x none v is test = ap (λ ys. x ∷ ys) (none refl) ∙ ap (λ ys. ys ++ x ∷ []) (sym (none refl) ∙ v)
  pushed_first (Some y) is_none later view x none v is test = absurd (false≢true (sym (is ∙ ap not test)))

  pub pushed_behind : {B E : Type 0} (result : Result B E) (first : Option A) (is_none is_err : Bool) (later new view : List A) (x : A) → cons_option first later ≡ view →
      is_some first ≡ not is_none → is_none ≡ false → new ≡ (if is_ok result then later ++ x ∷ [] else later) → is_ok result ≡ not is_err → is_err ≡ false →
      cons_option first new ≡ view ++ x ∷ []
  pushed_behind result None is_none is_err later new view x v is test items ok no_err = absurd (false≢true (is ∙ ap not test))
  pushed_behind result (Some y) is_none is_err later new view x v is test items ok no_err =
      ap (λ ys. y ∷ ys) (items ∙ ap (λ b. if b then later ++ x ∷ [] else later) (ok ∙ ap not no_err)) ∙ ap (λ ys. ys ++ x ∷ []) v

  pub not_pushed : {B E : Type 0} (result : Result B E) (first : Option A) (is_err : Bool) (later new view : List A) (x : A) → cons_option first later ≡ view →
      new ≡ (if is_ok result then later ++ x ∷ [] else later) → is_ok result ≡ not is_err → is_err ≡ true → cons_option first new ≡ view
  not_pushed result first is_err later new view x v items ok err =
      ap (cons_option first) (items ∙ ap (λ b. if b then later ++ x ∷ [] else later) (ok ∙ ap not err)) ∙ v

  -- ---- each is changed

  pub none_changed : (f : A → A) (first : Option A) (later view : List A) → (first ≡ None → later ≡ []) → cons_option first later ≡ view → first ≡ None → view ≡ map f view
  none_changed f first later view none v e = let empty = none_stored first later view none v e in empty ∙ sym (ap (map f) empty)

  pub each_changed : (f : A → A) (first : Option A) (x y : A) (later ys view : List A) → cons_option first later ≡ view → first ≡ Some x → y ≡ f x → ys ≡ map f later →
      y ∷ ys ≡ map f view
  each_changed f first x y later ys view v e one rest = ap (λ z. z ∷ ys) one ∙ ap (λ zs. f x ∷ zs) rest ∙ sym (ap (map f) (some_stored first x later view v e))

  -- ---- all are tested

  pub none_tested : (p : A → Bool) (first : Option A) (later view : List A) → (first ≡ None → later ≡ []) → cons_option first later ≡ view → first ≡ None → true ≡ list_all p view
  none_tested p first later view none v e = sym (ap (list_all p) (none_stored first later view none v e))

  -- the first, and those behind it
  pub both_tested : (p : A → Bool) (first : Option A) (x : A) (later view : List A) (one rest : Bool) → cons_option first later ≡ view → first ≡ Some x → one ≡ p x →
      rest ≡ list_all p later → (one && rest) ≡ list_all p view
  both_tested p first x later view one rest v e h k = ap (λ b. b && rest) h ∙ ap (λ b. p x && b) k ∙ sym (ap (list_all p) (some_stored first x later view v e))

  pub all_pass : {B : Type 0} (p : A → Bool) (first : Option A) (x : A) (later view : List A) (found : Option B) (y : B) (rest : Bool) → cons_option first later ≡ view →
      first ≡ Some x → is_some found ≡ p x → found ≡ Some y → rest ≡ list_all p later → rest ≡ true → true ≡ list_all p view
  all_pass p first x later view found y rest v e test is others pass = both_tested p first x later view true true v e (sym (ap is_some is) ∙ test) (sym pass ∙ others)

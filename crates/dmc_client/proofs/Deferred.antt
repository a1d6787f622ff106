-- The deferred amount, as requests are added and removed.
use Rattle.std.proofs.Common.{◌≡◌, ℕ, Bool, true, false, ◌&&◌, List, [], ◌∷◌, ◌++◌, map, drop, length, Option, Some, None, refl, sym, ap, ◌∙◌, subst, arith}
use Rattle.std.specs.Prelude.{◌==◌, if◌then◌else◌, slice_get, is_some, Result, Ok, Err, OnOk, OnErr}
use Rattle.std.specs.Option.{option_map, option_map_or, unwrap_or}
use Rattle.std.specs.List.{AllByRecursion, list_all}
use Rattle.std.proofs.lemmas.List.{map-append}
use Rattle.std.proofs.lemmas.List.Folds.{list_all-map}
use Rattle.std.proofs.lemmas.Bool.{and_parts, eqb-true}
use Rattle.std.proofs.lemmas.Option.{slice_get-map}
use Rattle.dmc_tag.specs.Tag.{Tagging, Fraction, IsExact}
use Rattle.dmc_tag.specs.Rules.{less, has_less, less_share, less_reservation}
use Rattle.dmc_tag.proofs.ForCallers.{minus_twice, plus_then_minus}
use Rattle.dmc_tag.specs.declared.plain.QueuedRequest.{QueuedRequest}
use Rattle.dmc_client.specs.internal.Deferred.{tag_less_deferred, tag_has_deferred, less_deferred, all_less_deferred, reservation_has_less, has_deferred, IsDeferred, deferred_with}
use Rattle.dmc_client.proofs.Records.{all_rest}
use Rattle.dmc_lemmas.proofs.Lists.{all_next}

module _ {T : Type 0} (ops : Tagging T) where
  -- nothing deferred is nothing taken off
  pub none_deferred : (xs : List (QueuedRequest T)) → all_less_deferred ops None xs ≡ xs
  none_deferred [] = refl
  none_deferred (x ∷ xs) = ap (λ ys. x ∷ ys) (none_deferred xs)

  pub none_deferred_values : (xs : List (QueuedRequest T)) → AllByRecursion (λ r. has_deferred ops None r ≡ true) xs
  none_deferred_values [] = tt
  none_deferred_values (x ∷ xs) = (refl, none_deferred_values xs)

  pub none_is_deferred : (xs : List (QueuedRequest T)) → IsDeferred ops None xs
  none_is_deferred xs = record { values = none_deferred_values xs; empty = λ e. refl }

  -- ---- the first request, and the others

  -- what is read at an index: what is stored there, less the deferred amount
  pub read_less : (deferred : Option T) (stored xs : List (QueuedRequest T)) (i : ℕ) (found : Option (QueuedRequest T)) → all_less_deferred ops deferred stored ≡ xs → found ≡ slice_get stored i → option_map (less_deferred ops deferred) found ≡ slice_get xs i
  read_less deferred stored xs i found view e = ap (option_map (less_deferred ops deferred)) e ∙ sym (slice_get-map (less_deferred ops deferred) stored i) ∙ ap (λ ys. slice_get ys i) view

  pub rest_less : (deferred : Option T) (xs : List (QueuedRequest T)) → drop 1 (all_less_deferred ops deferred xs) ≡ all_less_deferred ops deferred (drop 1 xs)
  rest_less deferred [] = refl
  rest_less deferred (x ∷ xs) = refl

  pub rest_values : (deferred : Option T) (xs : List (QueuedRequest T)) → IsDeferred ops deferred xs → AllByRecursion (λ r. has_deferred ops deferred r ≡ true) (drop 1 xs)
  rest_values deferred xs is = all_rest _ xs is.values

  -- ---- a request more

  pub next_less : (deferred : Option T) (xs : List (QueuedRequest T)) (x request : QueuedRequest T) → less_deferred ops deferred x ≡ request → all_less_deferred ops deferred (xs ++ x ∷ []) ≡ all_less_deferred ops deferred xs ++ request ∷ []
  next_less deferred xs x request e = map-append (less_deferred ops deferred) xs (x ∷ []) ∙ ap (λ y. all_less_deferred ops deferred xs ++ y ∷ []) e

  not_empty : (xs : List (QueuedRequest T)) (x : QueuedRequest T) (deferred : Option T) → xs ++ x ∷ [] ≡ [] → deferred ≡ None
  not_empty [] x deferred e = cc
  not_empty (y ∷ xs) x deferred e = cc

  pub next_is_deferred : (deferred : Option T) (xs : List (QueuedRequest T)) (x : QueuedRequest T) → IsDeferred ops deferred xs → has_deferred ops deferred x ≡ true → IsDeferred ops deferred (xs ++ x ∷ [])
  next_is_deferred deferred xs x is e = record {
    values = all_next _ xs x is.values e;
    empty = not_empty xs x deferred;
  }

  -- ---- shares, which owe nothing

  share_apart : (amount : T) (deferred : Option T) (x : QueuedRequest T) → less_deferred ops deferred (less_share ops amount x) ≡ less_share ops amount (less_deferred ops deferred x)
  share_apart amount None x = refl
  share_apart amount (Some o) x = refl

  pub shares_apart : (amount : T) (deferred : Option T) (xs : List (QueuedRequest T)) → all_less_deferred ops deferred (map (less_share ops amount) xs) ≡ map (less_share ops amount) (all_less_deferred ops deferred xs)
  shares_apart amount deferred [] = refl
  shares_apart amount deferred (x ∷ xs) = ap (λ y. y ∷ all_less_deferred ops deferred (map (less_share ops amount) xs)) (share_apart amount deferred x) ∙ ap (λ ys. less_share ops amount (less_deferred ops deferred x) ∷ ys) (shares_apart amount deferred xs)

  share_has_deferred : (amount : T) (deferred : Option T) (x : QueuedRequest T) → has_deferred ops deferred x ≡ true → has_deferred ops deferred (less_share ops amount x) ≡ true
  share_has_deferred amount None x h = h
  share_has_deferred amount (Some o) x h = h

  shares_have_deferred : (amount : T) (deferred : Option T) (xs : List (QueuedRequest T)) → AllByRecursion (λ r. has_deferred ops deferred r ≡ true) xs → AllByRecursion (λ r. has_deferred ops deferred r ≡ true) (map (less_share ops amount) xs)
  shares_have_deferred amount deferred [] h = tt
  shares_have_deferred amount deferred (x ∷ xs) h = (share_has_deferred amount deferred x h.0, shares_have_deferred amount deferred xs h.1)

  shares_empty : (amount : T) (deferred : Option T) (xs : List (QueuedRequest T)) → (xs ≡ [] → deferred ≡ None) → map (less_share ops amount) xs ≡ [] → deferred ≡ None
  shares_empty amount deferred [] k e = k refl
  shares_empty amount deferred (x ∷ xs) k e = cc

  pub shares_are_deferred : (amount : T) (deferred : Option T) (xs : List (QueuedRequest T)) → IsDeferred ops deferred xs → IsDeferred ops deferred (map (less_share ops amount) xs)
  shares_are_deferred amount deferred xs is = record {
    values = shares_have_deferred amount deferred xs is.values;
    empty = shares_empty amount deferred xs is.empty;
  }

  -- the same, if they change only if a test passes

  pub tested_are_deferred : (amount : T) (deferred : Option T) (xs : List (QueuedRequest T)) (passes : Bool) → IsDeferred ops deferred xs → IsDeferred ops deferred (if passes then map (less_share ops amount) xs else xs)
  tested_are_deferred amount deferred xs true is = shares_are_deferred amount deferred xs is
  tested_are_deferred amount deferred xs false is = is

  pub tested_apart : (amount : T) (deferred : Option T) (xs : List (QueuedRequest T)) (passes : Bool) → all_less_deferred ops deferred (if passes then map (less_share ops amount) xs else xs) ≡ (if passes then map (less_share ops amount) (all_less_deferred ops deferred xs) else all_less_deferred ops deferred xs)
  tested_apart amount deferred xs true = shares_apart amount deferred xs
  tested_apart amount deferred xs false = refl

  -- ---- an amount more is deferred

  module _ (fraction : T → Fraction) (is_value : Fraction → Type 0) (exact : IsExact ops fraction is_value) where
    -- r less o and less a, if both are values, is r less their sum
    tag_less_both : (o a t r : T) (first second : Option T) → ops.plus o a ≡ Some t → ops.minus r o ≡ first → is_some first ≡ true → ops.minus (unwrap_or first r) a ≡ second → is_some second ≡ true → (has_less ops t r ≡ true) × (less ops t r ≡ less ops a (less ops o r))
    tag_less_both o a t r None second sum p h q k = cc
    tag_less_both o a t r (Some x) None sum p h q k = cc
    tag_less_both o a t r (Some x) (Some y) sum p h q k =
        let both : ops.minus r t ≡ Some y = minus_twice ops fraction is_value exact r o a t x y p sum q in
        let once : less ops o r ≡ x = ap (λ m. unwrap_or m r) p in
        (ap is_some both, ap (λ m. unwrap_or m r) both ∙ sym (ap (less ops a) once ∙ ap (λ m. unwrap_or m x) q))

    both_less : (o a t : T) (x : QueuedRequest T) (r : Option T) → x.tags.r ≡ r → ops.plus o a ≡ Some t → option_map_or (has_less ops o) r true ≡ true → option_map_or (has_less ops a) (option_map (less ops o) r) true ≡ true → (option_map_or (has_less ops t) r true ≡ true) × (option_map (less ops t) r ≡ option_map (less ops a) (option_map (less ops o) r))
    both_less o a t x None e sum h k = (refl, refl)
    both_less o a t x (Some r) e sum h k =
        let both = tag_less_both o a t r (ops.minus r o) (ops.minus (less ops o r) a) sum refl h refl k in
        (both.0, ap Some both.1)

    more_deferred_at : (deferred : Option T) (a t : T) (x : QueuedRequest T) → deferred_with ops deferred a ≡ Some t → has_deferred ops deferred x ≡ true → reservation_has_less ops a (less_deferred ops deferred x) ≡ true → (has_deferred ops (Some t) x ≡ true) × (less_deferred ops (Some t) x ≡ less_reservation ops a (less_deferred ops deferred x))
    more_deferred_at None a t x sum h k = let same : a ≡ t = cc in subst (λ s. (has_deferred ops (Some s) x ≡ true) × (less_deferred ops (Some s) x ≡ less_reservation ops a x)) same (k, refl)
    more_deferred_at (Some o) a t x sum h k =
        let both = both_less o a t x x.tags.r refl sum h k in
        (both.0, ap (λ r. record x { tags = record (x.tags) { r = r } }) both.1)

    pub more_deferred : (deferred : Option T) (a t : T) (xs : List (QueuedRequest T)) → deferred_with ops deferred a ≡ Some t → AllByRecursion (λ r. has_deferred ops deferred r ≡ true) xs → list_all (reservation_has_less ops a) (all_less_deferred ops deferred xs) ≡ true → AllByRecursion (λ r. has_deferred ops (Some t) r ≡ true) xs × (all_less_deferred ops (Some t) xs ≡ map (less_reservation ops a) (all_less_deferred ops deferred xs))
    more_deferred deferred a t [] sum h k = (tt, refl)
    more_deferred deferred a t (x ∷ xs) sum h k =
        let parts = and_parts (reservation_has_less ops a (less_deferred ops deferred x)) (list_all (reservation_has_less ops a) (all_less_deferred ops deferred xs)) k in
        let one = more_deferred_at deferred a t x sum h.0 parts.0 in
        let rest = more_deferred deferred a t xs sum h.1 parts.1 in (
          (one.0, rest.0),
          ap (λ y. y ∷ all_less_deferred ops (Some t) xs) one.1 ∙ ap (λ ys. less_reservation ops a (less_deferred ops deferred x) ∷ ys) rest.1,
        )

    -- a value stored with the deferred amount
    pub stored_with : (r amount sum : T) → is_value (fraction r) → ops.plus r amount ≡ Some sum → (less ops amount sum ≡ r) × (has_less ops amount sum ≡ true)
    stored_with r amount sum known e =
        let back = plus_then_minus ops fraction is_value exact r amount sum known e in
        (ap (λ m. unwrap_or m sum) back, ap is_some back)

    pub stored_tag : (deferred r : Option T) (amount tag sum : T) → deferred ≡ Some amount → r ≡ Some tag → is_value (fraction tag) → ops.plus tag amount ≡ Some sum → (tag_less_deferred ops deferred (Some sum) ≡ r) × (tag_has_deferred ops deferred (Some sum) ≡ true)
    stored_tag deferred r amount tag sum o e known s =
        let back = stored_with tag amount sum known s in
        subst (λ p. (tag_less_deferred ops p (Some sum) ≡ r) × (tag_has_deferred ops p (Some sum) ≡ true)) (sym o) (ap Some back.0 ∙ sym e, back.1)

  pub stored_request : (deferred r : Option T) (request : QueuedRequest T) → (tag_less_deferred ops deferred r ≡ request.tags.r) × (tag_has_deferred ops deferred r ≡ true) → (less_deferred ops deferred (record request { tags = record (request.tags) { r = r } }) ≡ request) × (has_deferred ops deferred (record request { tags = record (request.tags) { r = r } }) ≡ true)
  stored_request deferred r request h = (ap (λ p. record request { tags = record (request.tags) { r = p } }) h.0, h.1)

  pub stored_without : (deferred : Option T) (request : QueuedRequest T) → request.tags.r ≡ None → (less_deferred ops deferred request ≡ request) × (has_deferred ops deferred request ≡ true)
  stored_without None request e = (refl, refl)
  stored_without (Some o) request e = (ap (λ p. record request { tags = record (request.tags) { r = p } }) (ap (option_map (less ops o)) e ∙ sym e), ap (λ p. option_map_or (has_less ops o) p true) e)

  -- ---- as a call leaves it

  pub popped_is_deferred : (deferred : Option T) (old new : List (QueuedRequest T)) → IsDeferred ops deferred old → new ≡ drop 1 old → false ≡ (length new == 0) → IsDeferred ops deferred new
  popped_is_deferred deferred old new is e some = record {
    values = subst (AllByRecursion (λ r. has_deferred ops deferred r ≡ true)) (sym e) (rest_values deferred old is);
    empty = λ none. cc (some, ap (λ xs. length xs == 0) none);
  }

  -- nothing was stored
  pub unpopped_is_deferred : (deferred : Option T) (old new : List (QueuedRequest T)) → IsDeferred ops deferred old → None ≡ slice_get old 0 → new ≡ drop 1 old → IsDeferred ops deferred new
  unpopped_is_deferred deferred [] new is found e = subst (IsDeferred ops deferred) (sym e) is
  unpopped_is_deferred deferred (x ∷ xs) new is found e = cc

  pub popped_less : (deferred : Option T) (old new view : List (QueuedRequest T)) → all_less_deferred ops deferred old ≡ view → new ≡ drop 1 old → all_less_deferred ops deferred new ≡ drop 1 view
  popped_less deferred old new view v e = ap (all_less_deferred ops deferred) e ∙ sym (rest_less deferred old) ∙ ap (drop 1) v

  -- of nothing stored, the deferred amount takes off nothing
  pub empty_less : (deferred : Option T) (xs : List (QueuedRequest T)) → true ≡ (length xs == 0) → all_less_deferred ops None xs ≡ all_less_deferred ops deferred xs
  empty_less deferred [] e = refl
  empty_less deferred (x ∷ xs) e = let none : length (x ∷ xs) ≡ 0 = eqb-true _ _ (sym e) in absurd (omega arith)

  pub stored_is_deferred : {A E : Type 0} (result : Result A E) (deferred : Option T) (old new : List (QueuedRequest T)) (x : QueuedRequest T) → OnOk result (new ≡ old ++ x ∷ []) → OnErr result (new ≡ old) → IsDeferred ops deferred old → has_deferred ops deferred x ≡ true → IsDeferred ops deferred new
  stored_is_deferred (Ok a) deferred old new x h k is e = subst (IsDeferred ops deferred) (sym h) (next_is_deferred deferred old x is e)
  stored_is_deferred (Err b) deferred old new x h k is e = subst (IsDeferred ops deferred) (sym k) is

  pub stored_ok : {A E : Type 0} (result : Result A E) (deferred : Option T) (old new view : List (QueuedRequest T)) (x request : QueuedRequest T) → OnOk result (new ≡ old ++ x ∷ []) → all_less_deferred ops deferred old ≡ view → less_deferred ops deferred x ≡ request → OnOk result (all_less_deferred ops deferred new ≡ view ++ request ∷ [])
  stored_ok (Ok a) deferred old new view x request h v e = ap (all_less_deferred ops deferred) h ∙ next_less deferred old x request e ∙ ap (λ xs. xs ++ request ∷ []) v
  stored_ok (Err b) deferred old new view x request h v e = tt

  pub stored_err : {A E : Type 0} (result : Result A E) (deferred : Option T) (old new view : List (QueuedRequest T)) → OnErr result (new ≡ old) → all_less_deferred ops deferred old ≡ view → OnErr result (all_less_deferred ops deferred new ≡ view)
  stored_err (Ok a) deferred old new view h v = tt
  stored_err (Err b) deferred old new view h v = ap (all_less_deferred ops deferred) h ∙ v

  -- ---- tests of what is read

  pub others_tested : (amount : T) (deferred : Option T) (xs : List (QueuedRequest T)) → list_all (λ r. reservation_has_less ops amount (less_deferred ops deferred r)) (drop 1 xs) ≡ list_all (reservation_has_less ops amount) (drop 1 (all_less_deferred ops deferred xs))
  others_tested amount deferred xs = sym (ap (list_all (reservation_has_less ops amount)) (rest_less deferred xs) ∙ list_all-map (reservation_has_less ops amount) (less_deferred ops deferred) (drop 1 xs))

  share_tested : (amount : T) (deferred : Option T) (x : QueuedRequest T) → has_less ops amount x.tags.p ≡ has_less ops amount (less_deferred ops deferred x).tags.p
  share_tested amount None x = refl
  share_tested amount (Some o) x = refl

  pub shares_tested : (amount : T) (deferred : Option T) (xs : List (QueuedRequest T)) → list_all (λ r. has_less ops amount r.tags.p) xs ≡ list_all (λ r. has_less ops amount r.tags.p) (all_less_deferred ops deferred xs)
  shares_tested amount deferred [] = refl
  shares_tested amount deferred (x ∷ xs) = ap (λ b. b && list_all (λ r. has_less ops amount r.tags.p) xs) (share_tested amount deferred x) ∙ ap (λ b. has_less ops amount (less_deferred ops deferred x).tags.p && b) (shares_tested amount deferred xs)

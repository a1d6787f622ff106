-- A walk over the requests of which some are taken back, and those that stay.
use Rattle.std.proofs.Common.{◌≡◌, ℕ, ◌+◌, ◌<◌, ◌≤◌, Bool, true, false, not, ◌||◌, List, [], ◌∷◌, ◌++◌, length, take, drop, set, get_or, Option, Some, None, refl, sym, ap, ◌∙◌, subst, arith}
use Rattle.std.specs.Prelude.{filter, option_to_list, if◌then◌else◌}
use Rattle.std.specs.Cmp.{IsTotalOrder}
use Rattle.std.specs.Option.{option_map_or}
use Rattle.std.proofs.lemmas.Bool.{or_parts}
use Rattle.std.proofs.lemmas.List.{at_drop_more, take_more, take_more_set, drop-set-lt, set-get_or, append_assoc, drop_all, take_all, append-nil}
use Rattle.dmc_types.specs.declared.ids.Token.{Token}
use Rattle.dmc_tag.specs.Cancel.{has_token, staying, befores_after, befores_next, fallen_request, last_has_token, no_befores}
use Rattle.dmc_tag.specs.Tag.{Fraction, Tagging, IsExact}
use Rattle.dmc_tag.specs.declared.cancel.Befores.{Befores}
use Rattle.dmc_tag.specs.declared.plain.QueuedRequest.{QueuedRequest}
use Rattle.dmc_tag.specs.declared.plain.Slack.{Slack}
use Rattle.std.specs.List.{AllByRecursion, cons_option}
use Rattle.dmc_client.specs.internal.Passed.{all_passed, IsOfRecord, leaves_next, unchanged, last_unchanged, noted}
use Rattle.dmc_client.proofs.Behind.{next_first}
use Rattle.dmc_client.proofs.Unchanged.{last_is, unchanged_leaves, next_fits, stays_as_it_is, next_unchanged, noted_again}

module _ {A : Type 0} where
  -- what is left from one place of two lists is left behind it
  same_first : (xs ys : List A) (i : ℕ) (x : A) → i < length xs → i < length ys → x ≡ get_or xs i x → drop i xs ≡ drop i ys → x ∷ drop (i + 1) xs ≡ get_or ys i x ∷ drop (i + 1) ys
  same_first xs ys i x in_xs in_ys read e =
      ap (λ y. y ∷ drop (i + 1) xs) read ∙ sym (at_drop_more (λ l. l) xs i x in_xs) ∙ e ∙ at_drop_more (λ l. l) ys i x in_ys

  either_way : (b : Bool) (x : A) (xs : List A) → (if not b then x ∷ xs else xs) ≡ (if b then xs else x ∷ xs)
  either_way true x xs = refl
  either_way false x xs = refl

module _ {T : Type 0} (ops : Tagging T) (token : Token) (charged : ℕ → Slack T) where
  abbrev next : Befores T → QueuedRequest T → Befores T
  next befores r = befores_next ops (has_token token r) (charged r.cost) befores r

  -- of a walk over the old requests the first i are done
  pub record Walks (old : List (QueuedRequest T)) (first : Befores T) (i : ℕ) (items : List (QueuedRequest T)) (befores : Befores T) : Type 0 where
    pub left : drop i items ≡ drop i old
    pub done : take i items ++ all_passed ops token charged befores (drop i old) ≡ all_passed ops token charged first old
    pub last : befores_after ops token charged befores (drop i old) ≡ befores_after ops token charged first old

  pub walk_begins : (old : List (QueuedRequest T)) (first : Befores T) → Walks old first 0 old first
  walk_begins old first = record { left = refl; done = refl; last = refl }

  -- the next request of the old ones is the one that is read
  walk_at : (old items : List (QueuedRequest T)) (first befores : Befores T) (i : ℕ) (r : QueuedRequest T) → i < length items → i < length old → r ≡ get_or items i r → Walks old first i items befores → drop i old ≡ r ∷ drop (i + 1) old
  walk_at old items first befores i r in_items in_old read w =
      let whole : r ∷ drop (i + 1) items ≡ get_or old i r ∷ drop (i + 1) old = same_first items old i r in_items in_old read w.left in
      let same : r ≡ get_or old i r = cc (whole) in
      at_drop_more (λ l. l) old i r in_old ∙ ap (λ x. x ∷ drop (i + 1) old) (sym same)

  pub walk_goes_on : (old items : List (QueuedRequest T)) (first befores : Befores T) (i : ℕ) (r : QueuedRequest T) → i < length items → i < length old → r ≡ get_or items i r → Walks old first i items befores →
      Walks old first (i + 1) (set items i (fallen_request ops befores r)) (next befores r)
  walk_goes_on old items first befores i r in_items in_old read w =
      let whole : r ∷ drop (i + 1) items ≡ get_or old i r ∷ drop (i + 1) old = same_first items old i r in_items in_old read w.left in
      let behind = walk_at old items first befores i r in_items in_old read w in
      let more : i < i + 1 = omega arith in
      record {
        left = drop-set-lt (i + 1) items i _ more ∙ ap (drop 1) whole;
        done =
            ap (λ xs. xs ++ all_passed ops token charged (next befores r) (drop (i + 1) old)) (take_more_set items i _ in_items)
            ∙ append_assoc (take i items) (fallen_request ops befores r ∷ []) _
            ∙ ap (λ rs. take i items ++ all_passed ops token charged befores rs) (sym behind)
            ∙ w.done;
        last = ap (befores_after ops token charged befores) (sym behind) ∙ w.last;
      }

  pub walk_ends : (old items : List (QueuedRequest T)) (first befores : Befores T) (i : ℕ) → length items ≤ i → length old ≤ i → Walks old first i items befores →
      (items ≡ all_passed ops token charged first old) × (befores ≡ befores_after ops token charged first old)
  walk_ends old items first befores i past_items past_old w =
      let none : drop i old ≡ [] = drop_all i old past_old in (
        sym (append-nil items) ∙ ap (λ xs. xs ++ []) (sym (take_all i items past_items)) ∙ ap (λ rs. take i items ++ all_passed ops token charged befores rs) (sym none) ∙ w.done,
        ap (befores_after ops token charged befores) (sym none) ∙ w.last,
      )

  -- ---- the same, if those that stay as they are are passed over

  module _ (fraction : T → Fraction) (is_value : Fraction → Type 0) (exact : IsExact ops fraction is_value) (order : IsTotalOrder ops.compare) (reserved : Bool) where
    -- of the first i requests those that stay as they are were passed over: what became of the last one is not noted
    pub record PassesOver (old : List (QueuedRequest T)) (first : Befores T) (i : ℕ) (items : List (QueuedRequest T)) (leaves : Bool) (befores : Befores T) : Type 0 where
      pub walks : Walks old first i items (noted leaves befores (take i items))
      pub known : AllByRecursion (IsOfRecord ops reserved) (drop i old)
      pub fits : reserved ≡ false → (noted leaves befores (take i items)).r ≡ None
      pub left : leaves ≡ true → leaves_next ops (noted leaves befores (take i items)) ≡ true

    nothing_noted : (leaves : Bool) (befores : Befores T) → noted leaves befores [] ≡ befores
    nothing_noted true befores = refl
    nothing_noted false befores = refl

    pub passing_begins : (old : List (QueuedRequest T)) (first : Befores T) (leaves : Bool) → leaves ≡ leaves_next ops first → AllByRecursion (IsOfRecord ops reserved) old → (reserved ≡ false → first.r ≡ None) → PassesOver old first 0 old leaves first
    passing_begins old first leaves is known fits =
        let same = nothing_noted leaves first in
        record { walks = rw same (walk_begins old first); known = known; fits = rw same fits; left = λ e. rw same (sym is ∙ e) }

    module _ (old items : List (QueuedRequest T)) (first befores : Befores T) (i : ℕ) (leaves : Bool) (r : QueuedRequest T) (in_items : i < length items) (in_old : i < length old) (read : r ≡ get_or items i r) (w : PassesOver old first i items leaves befores) where
      abbrev now : Befores T
      now = noted leaves befores (take i items)

      here : drop i old ≡ r ∷ drop (i + 1) old
      here = walk_at old items first now i r in_items in_old read w.walks

      parts : IsOfRecord ops reserved r × AllByRecursion (IsOfRecord ops reserved) (drop (i + 1) old)
      parts = subst (AllByRecursion (IsOfRecord ops reserved)) here w.known

      noted_next : (l : Bool) → l ≡ leaves_next ops (next now r) → noted l (next now r) (take (i + 1) (set items i (fallen_request ops now r))) ≡ next now r
      noted_next false e = refl
      noted_next true e =
          ap (last_unchanged (next now r)) (take_more_set items i (fallen_request ops now r) in_items)
          ∙ noted_again ops fraction is_value exact order reserved now r parts.0 w.fits (has_token token r) (charged r.cost) (sym e) (take i items) (next now r)

      -- a request that may change
      pub passing_changes : (l : Bool) → l ≡ leaves_next ops (next now r) → PassesOver old first (i + 1) (set items i (fallen_request ops now r)) l (next now r)
      passing_changes l e =
          let same = noted_next l e in
          record {
            walks = rw same (walk_goes_on old items first now i r in_items in_old read w.walks);
            known = parts.1;
            fits = rw same (next_fits ops fraction is_value exact order reserved now r parts.0 w.fits (has_token token r) (charged r.cost));
            left = λ left. rw same (sym e ∙ left);
          }

      pub passing_changes_to : (items' : List (QueuedRequest T)) (x : QueuedRequest T) (l : Bool) (b after : Befores T) → items' ≡ set items i x → x ≡ fallen_request ops b r → b ≡ now → after ≡ next b r → l ≡ leaves_next ops after → PassesOver old first (i + 1) items' l after
      passing_changes_to items' x l b after stored is noted_is next_is test =
          let next_now : after ≡ next now r = next_is ∙ ap (λ z. next z r) noted_is in
          let stored_now : items' ≡ set items i (fallen_request ops now r) = stored ∙ ap (set items i) (is ∙ ap (λ z. fallen_request ops z r) noted_is) in
          rw (stored_now, next_now) (passing_changes l (test ∙ ap (leaves_next ops) next_now))

      -- one that stays as it is
      pub passing_over : (not leaves || has_token token r) ≡ false → PassesOver old first (i + 1) items leaves befores
      passing_over e =
          let both = or_parts (not leaves) (has_token token r) e in
          let leaves_is : leaves ≡ true = not_not leaves both.0 in
          let left = w.left leaves_is in
          let same : fallen_request ops now r ≡ r = stays_as_it_is ops fraction is_value exact order reserved now r parts.0 w.fits left in
          let next_is : next now r ≡ unchanged r = ap (λ c. befores_next ops c (charged r.cost) now r) both.1 ∙ next_unchanged ops fraction is_value exact order reserved now r parts.0 w.fits left (charged r.cost) in
          let kept : set items i (fallen_request ops now r) ≡ items = ap (set items i) (same ∙ read) ∙ set-get_or items i r in
          let noted_is : noted leaves befores (take (i + 1) items) ≡ unchanged r = ap (λ l. noted l befores (take (i + 1) items)) leaves_is ∙ ap (last_unchanged befores) (take_more items i r in_items ∙ ap (λ x. take i items ++ x ∷ []) (sym read)) ∙ last_is befores (take i items) r in
          let walks = subst (λ xs. Walks old first (i + 1) xs (next now r)) kept (walk_goes_on old items first now i r in_items in_old read w.walks) in
          record {
            walks = subst (Walks old first (i + 1) items) (next_is ∙ sym noted_is) walks;
            known = parts.1;
            fits = λ none. ap (λ b. b.r) (noted_is ∙ sym next_is) ∙ next_fits ops fraction is_value exact order reserved now r parts.0 w.fits (has_token token r) (charged r.cost) none;
            left = λ h. ap (leaves_next ops) noted_is ∙ unchanged_leaves ops fraction is_value exact order r;
          }
        where
          not_not : (b : Bool) → not b ≡ false → b ≡ true
          not_not true e = refl
          not_not false e = cc

    pub passing_ends : (old items : List (QueuedRequest T)) (first befores last : Befores T) (i : ℕ) (leaves : Bool) → length items ≤ i → length old ≤ i → last ≡ noted leaves befores items → PassesOver old first i items leaves befores →
        (items ≡ all_passed ops token charged first old) × (last ≡ befores_after ops token charged first old)
    passing_ends old items first befores last i leaves past_items past_old is w =
        let whole : take i items ≡ items = take_all i items past_items in
        walk_ends old items first last i past_items past_old (subst (Walks old first i items) (ap (noted leaves befores) whole ∙ sym is) w.walks)

  -- those that stay are those with another token
  pub others_stay : (befores : Befores T) (rs : List (QueuedRequest T)) → filter (λ r. not (has_token token r)) (all_passed ops token charged befores rs) ≡ staying ops token charged befores rs
  others_stay befores [] = refl
  others_stay befores (r ∷ rs) =
      either_way (has_token token r) (fallen_request ops befores r) _
      ∙ ap (λ xs. if has_token token r then xs else fallen_request ops befores r ∷ xs) (others_stay (next befores r) rs)

  -- how many stay, and how many do not
  pub both_counted : (befores : Befores T) (rs : List (QueuedRequest T)) → length (staying ops token charged befores rs) + length (filter (has_token token) rs) ≡ length rs
  both_counted befores [] = refl
  both_counted befores (r ∷ rs) = at (has_token token r) (both_counted (next befores r) rs) where
    at : (b : Bool) → length (staying ops token charged (next befores r) rs) + length (filter (has_token token) rs) ≡ length rs →
        length (if b then staying ops token charged (next befores r) rs else fallen_request ops befores r ∷ staying ops token charged (next befores r) rs)
        + length (if b then r ∷ filter (has_token token) rs else filter (has_token token) rs) ≡ length (r ∷ rs)
    at true e = omega arith
    at false e = omega arith

  -- the last request is cancelled if it has the token
  pub last_cancelled : (befores : Befores T) (rs : List (QueuedRequest T)) → option_map_or (λ before. before.cancelled) befores.l false ≡ false → option_map_or (λ before. before.cancelled) (befores_after ops token charged befores rs).l false ≡ last_has_token token rs
  last_cancelled befores [] e = e
  last_cancelled befores (r ∷ rs) e = behind befores r rs where
    behind : (befores : Befores T) (r : QueuedRequest T) (rs : List (QueuedRequest T)) → option_map_or (λ before. before.cancelled) (befores_after ops token charged befores (r ∷ rs)).l false ≡ last_has_token token (r ∷ rs)
    behind befores r [] = refl
    behind befores r (s ∷ rs) = behind (next befores r) s rs

  -- the first request is taken back, and the next one is the first
  pub first_taken : (first then_first : Option (QueuedRequest T)) (r : QueuedRequest T) (later behind rest view : List (QueuedRequest T)) (befores : Befores T) →
      cons_option first later ≡ view → first ≡ Some r → befores ≡ next no_befores r → false ≡ not (has_token token r) → behind ≡ staying ops token charged befores later → behind ≡ option_to_list then_first ++ rest →
      cons_option then_first rest ≡ staying ops token charged no_befores view
  first_taken first then_first r later behind rest view befores v is after has stays popped =
      next_first then_first rest ∙ sym popped ∙ stays
      ∙ ap (λ b. staying ops token charged b later) after
      ∙ ap (λ b. if b then staying ops token charged (next no_befores r) later else fallen_request ops no_befores r ∷ staying ops token charged (next no_befores r) later) (taken (has_token token r) has)
      ∙ ap (λ o. staying ops token charged no_befores (cons_option o later)) (sym is)
      ∙ ap (staying ops token charged no_befores) v
    where
      taken : (b : Bool) → false ≡ not b → true ≡ b
      taken true e = refl
      taken false e = cc

-- Of whole numbers in order the second and the last say of all others whether they have so much to lose.
use Rattle.std.proofs.Common.{◌≡◌, Bool, true, false, ◌&&◌, List, [], ◌∷◌, ◌++◌, drop, Option, Some, None, refl, sym, ap, ◌∙◌}
use Rattle.std.specs.Prelude.{filter_map, is_some, slice_get}
use Rattle.std.specs.Option.{option_map_or}
use Rattle.std.specs.List.{AllByRecursion, list_all, cons_option}
use Rattle.dmc_tag.specs.Tag.{Tagging}
use Rattle.dmc_tag.specs.Order.{AtMost}
use Rattle.dmc_tag.specs.Rules.{has_less}
use Rattle.dmc_lemmas.proofs.Lists.{all_at}
use Rattle.dmc_tag.specs.declared.plain.QueuedRequest.{QueuedRequest}
use Rattle.dmc_client.specs.Order.{InOrder}
use Rattle.dmc_client.specs.internal.Deferred.{reservation_has_less}
use Rattle.dmc_client.proofs.Records.{all_filter_map, rest_reservations}

-- what lies between two tags that have so much to lose has it too
abbrev pub HasBetween : {T : Type 0} → Tagging T → Type 0
HasBetween {T} ops = (x y z amount : T) → AtMost ops x y → AtMost ops y z → is_some (ops.minus x amount) ≡ true → is_some (ops.minus z amount) ≡ true → is_some (ops.minus y amount) ≡ true

module _ {T : Type 0} (ops : Tagging T) (between : HasBetween ops) (amount : T) where
  tags_between : (x last : T) (xs : List T) → has_less ops amount x ≡ true → has_less ops amount last ≡ true → AllByRecursion (AtMost ops x) (xs ++ last ∷ []) → InOrder ops (xs ++ last ∷ []) → list_all (has_less ops amount) xs ≡ true
  tags_between x last [] h k below order = refl
  tags_between x last (y ∷ xs) h k below order =
      let one : has_less ops amount y ≡ true = between x y last amount below.0 (all_at (AtMost ops y) xs last [] order.0) h k in
      ap (λ b. b && list_all (has_less ops amount) xs) one ∙ tags_between x last xs h k below.1 order.1

  none_have : (xs : List (QueuedRequest T)) → AllByRecursion (λ r. is_some r.tags.r ≡ false) xs → list_all (reservation_has_less ops amount) xs ≡ true
  none_have [] h = refl
  none_have (x ∷ xs) h = ap (λ b. b && list_all (reservation_has_less ops amount) xs) (none_has x.tags.r h.0) ∙ none_have xs h.1 where
    none_has : (r : Option T) → is_some r ≡ false → option_map_or (has_less ops amount) r true ≡ true
    none_has None e = refl
    none_has (Some r) e = cc

  only_if : (b : Bool) (rest : Bool) → (b ≡ true → rest ≡ true) → b ≡ (b && rest)
  only_if false rest h = refl
  only_if true rest h = sym (h refl)

  at_second : (r : Option T) (reserved : Bool) (xs : List (QueuedRequest T)) (last : T) → is_some r ≡ reserved → AllByRecursion (λ q. is_some q.tags.r ≡ reserved) xs → InOrder ops (cons_option r (filter_map (λ q. q.tags.r) xs) ++ last ∷ []) → has_less ops amount last ≡ true → option_map_or (has_less ops amount) r true ≡ (option_map_or (has_less ops amount) r true && list_all (reservation_has_less ops amount) xs)
  at_second None true xs last e all order k = cc
  at_second None false xs last e all order k = sym (none_have xs all)
  at_second (Some r) reserved xs last e all order k = only_if (has_less ops amount r) _ (λ h. sym (all_filter_map ops amount xs) ∙ tags_between r last (filter_map (λ q. q.tags.r) xs) h k order.0 order.1)

  pub second_says : (xs : List (QueuedRequest T)) (reserved : Bool) (last : T) → AllByRecursion (λ q. is_some q.tags.r ≡ reserved) xs → InOrder ops (filter_map (λ q. q.tags.r) xs ++ last ∷ []) → has_less ops amount last ≡ true → option_map_or (reservation_has_less ops amount) (slice_get xs 1) true ≡ list_all (reservation_has_less ops amount) (drop 1 xs)
  second_says [] reserved last all order k = refl
  second_says (x ∷ []) reserved last all order k = refl
  second_says (x ∷ y ∷ xs) reserved last all order k = at_second y.tags.r reserved xs last all.1.0 all.1.1 (rest_reservations ops x.tags.r (cons_option y.tags.r (filter_map (λ q. q.tags.r) xs)) last order) k

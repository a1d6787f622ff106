-- Lists of tags that stay in order.
use Rattle.std.proofs.Common.{◌≡◌, true, List, [], ◌∷◌, ◌++◌, map, Option, Some, None, refl, ap, ◌∙◌}
use Rattle.std.specs.Prelude.{is_some}
use Rattle.std.specs.Option.{unwrap_or}
use Rattle.std.specs.List.{AllByRecursion, list_all}
use Rattle.std.specs.Ordering.{is_gt}
use Rattle.std.specs.Cmp.{IsTotalOrder}
use Rattle.dmc_tag.specs.Tag.{Tagging}
use Rattle.dmc_tag.specs.Order.{AtMost}
use Rattle.dmc_tag.specs.Rules.{less, has_less}
use Rattle.dmc_client.specs.Order.{InOrder}
use Rattle.std.proofs.lemmas.Cmp.{upto}
use Rattle.std.proofs.lemmas.Bool.{and_parts}
use Rattle.dmc_tag.proofs.Upto.{at_most_itself}
pub use Rattle.dmc_lemmas.proofs.Orderings.{tag_order}

module _ {T : Type 0} (ops : Tagging T) (order : IsTotalOrder ops.compare) where
  below_all : (x p q : T) (xs : List T) → AllByRecursion (AtMost ops x) (xs ++ p ∷ []) → AtMost ops p q → AllByRecursion (AtMost ops x) ((xs ++ q ∷ []) ++ q ∷ [])
  below_all x p q [] h k = let up = upto order x p q h.0 k in (up, (up, tt))
  below_all x p q (y ∷ xs) h k = (h.0, below_all x p q xs h.1 k)

  -- the next tag is queued, and becomes the previous one
  pub in_order-next : (xs : List T) (p q : T) → InOrder ops (xs ++ p ∷ []) → AtMost ops p q → InOrder ops ((xs ++ q ∷ []) ++ q ∷ [])
  in_order-next [] p q h k = ((at_most_itself ops order q, tt), (tt, tt))
  in_order-next (x ∷ xs) p q h k = (below_all x p q xs h.0 k, in_order-next xs p q h.1 k)

-- an amount taken off each of two tags keeps their order
abbrev pub KeepsOrder : {T : Type 0} → Tagging T → Type 0
KeepsOrder {T} ops = (a b amount x y : T) → ops.minus a amount ≡ Some x → ops.minus b amount ≡ Some y → ops.compare x y ≡ ops.compare a b

module _ {T : Type 0} (ops : Tagging T) (keeps : KeepsOrder ops) (amount : T) where
  less_at_most : (a b : T) (o p : Option T) → ops.minus a amount ≡ o → ops.minus b amount ≡ p → is_some o ≡ true → is_some p ≡ true → AtMost ops a b → AtMost ops (less ops amount a) (less ops amount b)
  less_at_most a b (Some x) (Some y) e f s t h =
      ap is_gt (ap (λ o. ops.compare (unwrap_or o a) (less ops amount b)) e ∙ ap (λ o. ops.compare x (unwrap_or o b)) f ∙ keeps a b amount x y e f) ∙ h
  less_at_most a b (Some x) None e f s t h = cc
  less_at_most a b None p e f s t h = cc

  all_less : (a : T) (xs : List T) → has_less ops amount a ≡ true → list_all (has_less ops amount) xs ≡ true → AllByRecursion (AtMost ops a) xs → AllByRecursion (AtMost ops (less ops amount a)) (map (less ops amount) xs)
  all_less a [] s t h = tt
  all_less a (x ∷ xs) s t h =
      let parts = and_parts (has_less ops amount x) (list_all (has_less ops amount) xs) t in
      (less_at_most a x _ _ refl refl s parts.0 h.0, all_less a xs s parts.1 h.1)

  pub in_order-less : (xs : List T) → list_all (has_less ops amount) xs ≡ true → InOrder ops xs → InOrder ops (map (less ops amount) xs)
  in_order-less [] t h = tt
  in_order-less (x ∷ xs) t h =
      let parts = and_parts (has_less ops amount x) (list_all (has_less ops amount) xs) t in
      (all_less x xs parts.0 parts.1 h.0, in_order-less xs parts.1 h.1)

-- The orders by which the best is chosen: by tag within a client's requests, and then by client.
use Rattle.std.proofs.Common.{◌≡◌, Bool, true, false, Option, refl, sym, ap, ◌∙◌}
use Rattle.std.specs.declared.cmp.Ordering.{Ordering}
use Rattle.std.specs.declared.cmp.Ordering.TheVariants.{Less, Equal, Greater}
use Rattle.std.specs.Ordering.{is_lt, ordering_reverse, on, then_cmp}
use Rattle.std.specs.Cmp.{IsTotalOrder, on_total, then_total}
use Rattle.dmc_types.specs.declared.ids.ClientId.{ClientId}
use Rattle.dmc_tag.specs.Rank.{last_if_absent, client_cmp, absent_total, client_total}
use Rattle.dmc_tag.specs.Best.{is_below, is_before}
use Rattle.dmc_tag.specs.Tag.{Tagging}
use Rattle.dmc_tag.specs.declared.plain.QueuedRequest.{QueuedRequest}
use Rattle.dmc_lemmas.proofs.Orderings.{less_if_lt}

-- what the scan for the best needs of the order
pub record IsOrder {R : Type 0} (before : R → R → Bool) : Type 0 where
  -- x is not behind z, which is before y
  pub chain : (x y z : R) → before z x ≡ false → before z y ≡ true → before x y ≡ true
  -- x is before y, which is not behind z
  pub link : (x y z : R) → before x y ≡ true → before z y ≡ false → before x z ≡ true
  pub trans : (x y z : R) → before x y ≡ true → before y z ≡ true → before x z ≡ true
  pub irrefl : (x : R) → before x x ≡ false

module _ {R : Type 0} (C : R → R → Ordering) (o : IsTotalOrder C) where
  chained : (x y z : R) (r s : Ordering) → C z x ≡ r → C z y ≡ s → is_lt r ≡ false → is_lt s ≡ true → is_lt (C x y) ≡ true
  chained x y z Less s p q h k = cc
  chained x y z Equal s p q h k = ap is_lt (sym (o.congr z x y p)) ∙ ap is_lt q ∙ k
  chained x y z Greater Less p q h k =
      let back : C x z ≡ Less = o.antisymm x z ∙ ap ordering_reverse p in
      ap is_lt (o.trans x z y back q)
  chained x y z Greater Equal p q h k = cc
  chained x y z Greater Greater p q h k = cc

  linked : (x y z : R) (s : Ordering) → C x y ≡ Less → C z y ≡ s → is_lt s ≡ false → is_lt (C x z) ≡ true
  linked x y z Less p q h = cc
  linked x y z Equal p q h =
      let turned : C z x ≡ C y x = o.congr z y x q in
      ap is_lt (o.antisymm x z ∙ ap ordering_reverse turned ∙ sym (o.antisymm x y) ∙ p)
  linked x y z Greater p q h =
      let back : C y z ≡ Less = o.antisymm y z ∙ ap ordering_reverse q in
      ap is_lt (o.trans x y z p back)

  itself : (r : Ordering) → r ≡ ordering_reverse r → is_lt r ≡ false
  itself Less e = cc
  itself Equal e = refl
  itself Greater e = refl

  order_of : IsOrder (λ x y. is_lt (C x y))
  order_of = record {
    chain = λ x y z h k. chained x y z (C z x) (C z y) refl refl h k;
    link = λ x y z h k. linked x y z (C z y) (less_if_lt (C x y) h) refl k;
    trans = λ x y z h k. ap is_lt (o.trans x y z (less_if_lt (C x y) h) (less_if_lt (C y z) k));
    irrefl = λ x. itself (C x x) (o.antisymm x x);
  }

module _ {T : Type 0} (ops : Tagging T) (o : IsTotalOrder ops.compare) (tag : QueuedRequest T → Option T) where
  -- the order of one client's requests
  pub below_order : IsOrder (is_below ops tag)
  below_order = order_of (on tag (last_if_absent ops.compare)) (on_total tag (absent_total o))

  -- a client's request is before another client's
  abbrev pub pair_before : ClientId × QueuedRequest T → ClientId × QueuedRequest T → Bool
  pair_before x y = is_before ops tag x.0 x.1 y.0 y.1

  pub before_order : IsOrder pair_before
  before_order =
      order_of (then_cmp (on (λ x. tag x.1) (last_if_absent ops.compare)) (on (λ x. x.0) client_cmp))
      (then_total (on_total (λ x. tag x.1) (absent_total o)) (on_total (λ x. x.0) client_total))

-- Tags that are not above others.
use Rattle.std.proofs.Common.{◌≡◌, ℕ, not, true, false, Option, Some, None, ap}
use Rattle.std.specs.Cmp.{IsTotalOrder}
use Rattle.std.specs.Ordering.{is_gt}
use Rattle.std.proofs.lemmas.Bool.{not-true}
use Rattle.std.proofs.lemmas.Cmp.{upto, tied_itself}
use Rattle.dmc_lemmas.proofs.Orderings.{turned}
use Rattle.dmc_tag.specs.Tag.{Tagging}
use Rattle.dmc_tag.specs.Order.{AtMost}
use Rattle.dmc_tag.specs.Rank.{last_if_absent}
use Rattle.dmc_tag.specs.Best.{is_due}

-- a tag is not above another; an absent one is last
abbrev pub IsUpto : {T : Type 0} → Tagging T → Option T → Option T → Type 0
IsUpto ops a b = is_gt (last_if_absent ops.compare a b) ≡ false

module _ {T : Type 0} (ops : Tagging T) (order : IsTotalOrder ops.compare) where
  pub at_most_itself : (a : T) → AtMost ops a a
  at_most_itself a = ap is_gt (tied_itself order a)

  pub at_most_turned : (a b : T) → is_gt (ops.compare a b) ≡ true → AtMost ops b a
  at_most_turned a b g = turned (ops.compare a b) (ops.compare b a) (order.antisymm b a) g

  pub due_before : (t : ℕ) (a b : Option T) → IsUpto ops a b → is_due ops t b ≡ true → is_due ops t a ≡ true
  due_before t a None h d = cc
  due_before t None (Some b) h d = cc
  due_before t (Some a) (Some b) h d = ap not (upto order a b (ops.of_moment t) h (not-true _ d))

-- Orderings: of one, and of two in turn; and an order that is the same as a total one.
use Rattle.std.proofs.Common.{◌≡◌, true, false, refl, ap, subst}
use mathlib.Core.Path.{fun_ext}
use Rattle.std.specs.Cmp.{IsTotalOrder}
use Rattle.std.specs.Ordering.{ordering_reverse, ordering_then, is_lt, is_gt}
use Rattle.std.specs.declared.cmp.Ordering.{Ordering}
use Rattle.std.specs.declared.cmp.Ordering.TheVariants.{Less, Equal, Greater}

pub less_if_lt : (r : Ordering) → is_lt r ≡ true → r ≡ Less
less_if_lt Less e = refl
less_if_lt Equal e = cc
less_if_lt Greater e = cc

pub then_equal : (r s : Ordering) → ordering_then r s ≡ Equal → s ≡ Equal
then_equal Less s e = cc
then_equal Equal s e = e
then_equal Greater s e = cc

pub then_less : (r s : Ordering) → ordering_then r s ≡ Less → is_gt r ≡ false
then_less Less s e = refl
then_less Equal s e = refl
then_less Greater s e = cc

pub turned : (r s : Ordering) → s ≡ ordering_reverse r → is_gt r ≡ true → is_gt s ≡ false
turned Less s e g = cc
turned Equal s e g = cc
turned Greater s e g = ap is_gt e

-- two orders that compare alike are one
pub same_compare : {T : Type 0} (cmp compare : T → T → Ordering) → ((a b : T) → cmp a b ≡ compare a b) → cmp ≡ compare
same_compare cmp compare h = fun_ext (λ a. fun_ext (λ b. h a b))

-- an order that is the same as a total one is total
pub tag_order : {T : Type 0} (cmp compare : T → T → Ordering) → IsTotalOrder cmp → ((a b : T) → cmp a b ≡ compare a b) → IsTotalOrder compare
tag_order cmp compare o h = subst IsTotalOrder (same_compare cmp compare h) o

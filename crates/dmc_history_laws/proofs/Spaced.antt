-- A tag after so many requests of a weight, as a fraction: what assignment keeps of being at least it, or at most.
use Rattle.std.proofs.Common.{◌≡◌, ℕ, ◌+◌, ◌*◌, Some, sym, ap, ◌∙◌, subst, arith}
use Rattle.std.specs.Prelude.{ℤ, pos, ◌+ℤ◌, ◌*ℤ◌, ◌≤ℤ◌, Ok}
use Rattle.std.specs.Cmp.{IsTotalOrder}
use Rattle.std.proofs.lemmas.Int.{ints}
use Rattle.dmc_tag.specs.Tag.{Fraction, Tagging, IsExact, IsSame, ratio}
use Rattle.dmc_tag.specs.Rules.{next_tag}
use Rattle.dmc_tag.proofs.Scaled.{scaled_twice, scaled_swapped}
use Rattle.dmc_history_laws.specs.Shares.{spaced_after}
use Rattle.dmc_history_laws.proofs.Pace.{NotAbove, at_most_more, spacing_worth, next_under}

module _ (hz w : ℕ) (base : Fraction) where
  -- a spacing for each of these requests more
  more : (sent k : ℕ) → (spaced_after hz w sent base).numer +ℤ pos (hz * base.denom * k) ≡ (spaced_after hz w (sent + k) base).numer
  more sent k =
      let sum : sent * hz * base.denom + hz * base.denom * k ≡ (sent + k) * hz * base.denom = omega arith in
      joined (base.numer *ℤ pos w) (sent * hz * base.denom) (hz * base.denom * k) ∙ ap (λ n. base.numer *ℤ pos w +ℤ pos n) sum
    where
      joined : (z : ℤ) (a b : ℕ) → (z +ℤ pos a) +ℤ pos b ≡ z +ℤ pos (a + b)
      joined z a b = omega (arith, ints)

  -- with none it is the tag itself
  itself : (spaced_after hz w 0 base).numer *ℤ pos base.denom ≡ base.numer *ℤ pos (base.denom * w)
  itself =
      let none : 0 * hz * base.denom ≡ 0 = omega arith in
      ap (λ n. (base.numer *ℤ pos w +ℤ pos n) *ℤ pos base.denom) none
      ∙ ap (λ z. z *ℤ pos base.denom) (and_nothing (base.numer *ℤ pos w))
      ∙ scaled_swapped base.numer w base.denom
      ∙ scaled_twice base.numer base.denom w
    where
      and_nothing : (z : ℤ) → z +ℤ pos 0 ≡ z
      and_nothing z = omega (arith, ints)

  -- the spacing over both denominators
  spacing_is : (f : Fraction) → IsSame f (ratio hz w) → IsSame f (ratio (hz * base.denom) (base.denom * w))
  spacing_is f e = ap (λ n. f.numer *ℤ pos n) turned ∙ sym (scaled_twice f.numer w base.denom) ∙ ap (λ z. z *ℤ pos base.denom) e ∙ ap pos (omega arith) where
    turned : base.denom * w ≡ w * base.denom
    turned = omega arith

  abbrev pub IsUpTo : ℕ → Fraction → Type 0
  IsUpTo sent f = NotAbove f (spaced_after hz w sent base).numer (base.denom * w)

  pub up_to_itself : IsUpTo 0 base
  up_to_itself = record { le = as_much _ _ itself } where
    as_much : (x y : ℤ) → x ≡ y → y ≤ℤ x
    as_much x y e = omega (arith, ints)

  -- with more requests it may be more
  pub up_to_more : (sent k : ℕ) (f : Fraction) → IsUpTo sent f → IsUpTo (sent + k) f
  up_to_more sent k f h = at_most_more f _ _ (base.denom * w) (subst (λ m. (spaced_after hz w sent base).numer ≤ℤ m) (more sent k) (grows _ _)) h where
    grows : (z : ℤ) (n : ℕ) → z ≤ℤ (z +ℤ pos n)
    grows z n = omega (arith, ints)

  module _ {T : Type 0} (ops : Tagging T) (fraction : T → Fraction) (is_value : Fraction → Type 0) (exact : IsExact ops fraction is_value) (order : IsTotalOrder ops.compare) (previous spacing tag t : T) (sent k : ℕ) (spaced : ops.spacing hz w ≡ Some spacing) (next : next_tag ops previous k spacing t ≡ Ok tag) where
    pub next_within : IsUpTo (sent + k) (fraction t) → IsUpTo sent (fraction previous) → IsUpTo (sent + k) (fraction tag)
    next_within under h = subst (λ m. NotAbove (fraction tag) m (base.denom * w)) (more sent k) (next_under ops fraction is_value exact order previous spacing tag t _ (hz * base.denom) (base.denom * w) k (spacing_is (fraction spacing) (spacing_worth ops fraction is_value exact hz w spacing spaced)) next (subst (λ m. NotAbove (fraction t) m (base.denom * w)) (sym (more sent k)) under) h)

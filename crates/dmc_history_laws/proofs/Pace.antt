-- Fractions that are not below a whole number of ticks over a rate, and what assignment keeps of that.
use Rattle.std.proofs.Common.{◌≡◌, ℕ, ◌*◌, ◌<◌, ◌≤◌, Bool, true, false, cond, not, Some, refl, sym, ap, ◌∙◌, subst, arith}
use Rattle.std.specs.Prelude.{ℤ, pos, ◌+ℤ◌, ◌*ℤ◌, ◌≤ℤ◌, Ok}
use Rattle.std.specs.Ordering.{is_lt, ord_max}
use Rattle.std.specs.Cmp.{IsTotalOrder}
use Rattle.std.proofs.lemmas.Int.{ints}
use Rattle.std.proofs.Math.IntN.{*ℤ_comm}
use Rattle.dmc_tag.specs.Tag.{Fraction, Tagging, IsExact, IsSame, ratio}
use Rattle.dmc_tag.specs.Outcome.{in_range}
use Rattle.dmc_tag.specs.Rules.{next_tag}
use Rattle.dmc_tag.specs.Best.{is_due}
use Rattle.std.proofs.Math.Nat.{mul-le-mul_left}
use Rattle.dmc_tag.proofs.Scaled.{scaled_twice, scaled_sum, scaled_le, unscaled_le, cancelled, scaled_swapped, times_one}
use Rattle.dmc_tag.proofs.TagOrder.{positive, bound, from_range, at_most_to, given}

-- the amount is so many spacings of the rate
pub record IsSpacings {T : Type 0} (ops : Tagging T) (hz q count : ℕ) (amount : T) : Type 0 where
  pub spacing : T
  pub spaced : ops.spacing hz q ≡ Some spacing
  pub steps : ops.steps spacing count ≡ Some amount

-- the fraction is not below m/q
pub record NotBelow (f : Fraction) (m : ℤ) (q : ℕ) : Type 0 where
  pub le : (m *ℤ pos f.denom) ≤ℤ (f.numer *ℤ pos q)

-- nor above it
pub record NotAbove (f : Fraction) (m : ℤ) (q : ℕ) : Type 0 where
  pub le : (f.numer *ℤ pos q) ≤ℤ (m *ℤ pos f.denom)

le_of : (x y : ℤ) → x ≡ y → x ≤ℤ y
le_of x y e = omega (arith, ints)

le_trans : (x y z : ℤ) → x ≤ℤ y → y ≤ℤ z → x ≤ℤ z
le_trans x y z p q = omega (arith, ints)

-- k spacings of a rate are k*hz over it
steps_worth : (dn spn : ℤ) (dd spd k hz q : ℕ) → 0 < spd → dn *ℤ pos spd ≡ (pos k *ℤ spn) *ℤ pos dd → spn *ℤ pos q ≡ pos hz *ℤ pos spd → dn *ℤ pos q ≡ pos (hz * k) *ℤ pos dd
steps_worth dn spn dd spd k hz q some e s =
    cancelled _ _ spd some (
    scaled_swapped dn q spd
    ∙ ap (λ z. z *ℤ pos q) (e ∙ ap (λ z. z *ℤ pos dd) (*ℤ_comm (pos k) spn))
    ∙ scaled_swapped (spn *ℤ pos k) dd q
    ∙ ap (λ z. z *ℤ pos dd) (scaled_swapped spn k q ∙ ap (λ z. z *ℤ pos k) s)
    ∙ ap pos (omega arith)
    )

-- more, if the fraction is more
pub raised : (f g : Fraction) (m : ℤ) (q : ℕ) → 0 < f.denom → (f.numer *ℤ pos g.denom) ≤ℤ (g.numer *ℤ pos f.denom) → NotBelow f m q → NotBelow g m q
raised f g m q some le h = record {
  le = unscaled_le _ _ f.denom some (
      le_trans _ _ _ (le_of _ _ (scaled_swapped m g.denom f.denom))
      (le_trans _ _ _ (scaled_le _ _ g.denom h.le)
      (le_trans _ _ _ (le_of _ _ (scaled_swapped f.numer q g.denom))
      (le_trans _ _ _ (scaled_le _ _ q le) (le_of _ _ (scaled_swapped g.numer f.denom q))))));
}

-- x is a moved by k/q: z over both denominators is added, and is worth as much. Then x and (m + k)/q compare as a and m/q do.
record Moved (a x : Fraction) (d : ℕ) (m k : ℤ) (q : ℕ) : Type 0 where
  rest : ℤ
  right : (x.numer *ℤ pos q) *ℤ pos (a.denom * d) ≡ ((a.numer *ℤ pos q) *ℤ pos d) *ℤ pos x.denom +ℤ rest
  left : ((m +ℤ k) *ℤ pos x.denom) *ℤ pos (a.denom * d) ≡ ((m *ℤ pos a.denom) *ℤ pos d) *ℤ pos x.denom +ℤ rest

moved : (a x : Fraction) (d : ℕ) (z m k : ℤ) (q : ℕ) → x.numer *ℤ pos (a.denom * d) ≡ (a.numer *ℤ pos d +ℤ z) *ℤ pos x.denom → z *ℤ pos q ≡ k *ℤ pos (a.denom * d) → Moved a x d m k q
moved a x d z m k q same worth =
    let both = a.denom * d in
    record {
      rest = (k *ℤ pos both) *ℤ pos x.denom;
      right = scaled_swapped x.numer q both
          ∙ ap (λ w. w *ℤ pos q) same
          ∙ scaled_swapped (a.numer *ℤ pos d +ℤ z) x.denom q
          ∙ ap (λ w. w *ℤ pos x.denom) (scaled_sum (a.numer *ℤ pos d) z q)
          ∙ ap (λ w. (w +ℤ z *ℤ pos q) *ℤ pos x.denom) (scaled_swapped a.numer d q)
          ∙ ap (λ w. ((a.numer *ℤ pos q) *ℤ pos d +ℤ w) *ℤ pos x.denom) worth
          ∙ scaled_sum ((a.numer *ℤ pos q) *ℤ pos d) (k *ℤ pos both) x.denom;
      left = scaled_swapped (m +ℤ k) x.denom both
          ∙ ap (λ w. w *ℤ pos x.denom) (scaled_sum m k both)
          ∙ scaled_sum (m *ℤ pos both) (k *ℤ pos both) x.denom
          ∙ ap (λ w. w *ℤ pos x.denom +ℤ (k *ℤ pos both) *ℤ pos x.denom) (sym (scaled_twice m a.denom d));
    }

joined : (x y u v w : ℤ) → x ≡ u +ℤ w → y ≡ v +ℤ w → u ≤ℤ v → x ≤ℤ y
joined x y u v w p q h = omega (arith, ints)

moved_under : (a x : Fraction) (d : ℕ) (m k : ℤ) (q : ℕ) → 0 < a.denom → 0 < d → Moved a x d m k q → NotAbove a m q → NotAbove x (m +ℤ k) q
moved_under a x d m k q some_a some_d is h = record { le = unscaled_le _ _ (a.denom * d) (positive _ _ some_a some_d) (joined _ _ _ _ _ is.right is.left (scaled_le _ _ x.denom (scaled_le _ _ d h.le))) }

-- what is at most less is at most more, and what is at most the fraction is so too
pub at_most_more : (f : Fraction) (m k : ℤ) (q : ℕ) → m ≤ℤ k → NotAbove f m q → NotAbove f k q
at_most_more f m k q le h = record { le = le_trans _ _ _ h.le (scaled_le _ _ f.denom le) }

pub under_as : (f g : Fraction) (m : ℤ) (q : ℕ) → 0 < g.denom → (f.numer *ℤ pos g.denom) ≤ℤ (g.numer *ℤ pos f.denom) → NotAbove g m q → NotAbove f m q
under_as f g m q some le h = record { le = (raised g (record { numer = m; denom = q }) f.numer f.denom some h.le (record { le = le })).le }

-- d is worth n/q
worth_over : (a d : Fraction) (q n : ℕ) → d.numer *ℤ pos q ≡ pos n *ℤ pos d.denom → (d.numer *ℤ pos a.denom) *ℤ pos q ≡ pos n *ℤ pos (a.denom * d.denom)
worth_over a d q n worth = scaled_swapped d.numer a.denom q ∙ ap (λ w. w *ℤ pos a.denom) worth ∙ scaled_swapped (pos n) d.denom a.denom ∙ scaled_twice (pos n) a.denom d.denom

-- more by n, if n over the rate is added
added : (a d x : Fraction) (m : ℤ) (q n : ℕ) → x.numer *ℤ pos (a.denom * d.denom) ≡ (a.numer *ℤ pos d.denom +ℤ d.numer *ℤ pos a.denom) *ℤ pos x.denom → d.numer *ℤ pos q ≡ pos n *ℤ pos d.denom → Moved a x d.denom m (pos n) q
added a d x m q n same worth = moved a x d.denom (d.numer *ℤ pos a.denom) m (pos n) q same (worth_over a d q n worth)

module _ {T : Type 0} (ops : Tagging T) (fraction : T → Fraction) (is_value : Fraction → Type 0) (exact : IsExact ops fraction is_value) where
  -- a moment is not below an earlier one
  pub moment_from : (at t q : ℕ) → at ≤ t → NotBelow (fraction (ops.of_moment t)) (pos (q * at)) q
  moment_from at t q h =
      let f = fraction (ops.of_moment t) in
      let is : f.numer *ℤ pos 1 ≡ pos t *ℤ pos f.denom = exact.of_moment t in
      let is_so : f.numer *ℤ pos q ≡ pos (t * f.denom * q) = ap (λ z. z *ℤ pos q) (sym (times_one f.numer) ∙ is) in
      record { le = subst (λ z. (pos (q * at) *ℤ pos f.denom) ≤ℤ z) (sym is_so) (below _ _ (grown at t q f.denom h)) } where
        below : (a b : ℕ) → a ≤ b → pos a ≤ℤ pos b
        below a b h = omega (arith, ints)

        grown : (at t q d : ℕ) → at ≤ t → q * at * d ≤ t * d * q
        grown at t q d h = let le : (q * d) * at ≤ (q * d) * t = mul-le-mul_left (q * d) h in omega arith

  -- the tag that is due at a moment is not past it
  pub due_within : (tag : T) (t q : ℕ) (m : ℤ) → is_due ops t (Some tag) ≡ true → NotBelow (fraction tag) m q → m ≤ℤ pos (q * t)
  due_within tag t q m due h =
      let f = fraction (ops.of_moment t) in
      let up = raised (fraction tag) f m q (exact.denom tag) (at_most_to ops fraction is_value exact tag (ops.of_moment t) (not_true _ due)) h in
      let is : f.numer *ℤ pos 1 ≡ pos t *ℤ pos f.denom = exact.of_moment t in
      let is_so : f.numer *ℤ pos q ≡ pos (q * t) *ℤ pos f.denom = ap (λ z. z *ℤ pos q) (sym (times_one f.numer) ∙ is) ∙ ap pos (omega arith) in
      unscaled_le m (pos (q * t)) f.denom (exact.denom (ops.of_moment t)) (subst (λ z. (m *ℤ pos f.denom) ≤ℤ z) is_so up.le) where
        not_true : (b : Bool) → not b ≡ true → b ≡ false
        not_true true e = cc
        not_true false e = refl

  pub spacing_worth : (hz q : ℕ) (s : T) → ops.spacing hz q ≡ Some s → IsSame (fraction s) (ratio hz q)
  spacing_worth hz q s e = given ops fraction is_value exact (ops.spacing hz q) _ s (exact.spacing hz q) e

  -- k steps of a spacing are worth k*hz over the rate
  pub steps_of : (hz q k : ℕ) (spacing amount : T) → IsSame (fraction spacing) (ratio hz q) → ops.steps spacing k ≡ Some amount → (fraction amount).numer *ℤ pos q ≡ pos (hz * k) *ℤ pos (fraction amount).denom
  steps_of hz q k spacing amount s e =
      let fs = fraction spacing in
      let fa = fraction amount in
      steps_worth fa.numer fs.numer fa.denom fs.denom k hz q (exact.denom spacing) (given ops fraction is_value exact (ops.steps spacing k) _ amount (exact.steps spacing k) e) s

  module _ (order : IsTotalOrder ops.compare) where
    -- the next tag is the greater of t and a sum, which is more by k*hz
    record Nexts (previous tag t : T) (m : ℤ) (hz q k : ℕ) : Type 0 where
      sum : T
      tag_is : ord_max ops.compare sum t ≡ tag
      d : ℕ
      some : 0 < d
      more : Moved (fraction previous) (fraction sum) d m (pos (hz * k)) q

    nexts : (previous spacing tag t : T) (m : ℤ) (hz q k : ℕ) → IsSame (fraction spacing) (ratio hz q) → next_tag ops previous k spacing t ≡ Ok tag → Nexts previous tag t m hz q k
    nexts previous spacing tag t m hz q k s e =
        let step = bound (in_range (ops.steps spacing k)) _ tag e in
        let sum = bound (in_range (ops.plus previous step.0)) _ tag step.2 in
        let fd = fraction step.0 in
        let worth = steps_of hz q k spacing step.0 s (from_range _ _ step.1) in
        record {
          sum = sum.0;
          tag_is = cc (sum.2);
          d = fd.denom;
          some = exact.denom step.0;
          more = added (fraction previous) fd (fraction sum.0) m q (hz * k) (given ops fraction is_value exact (ops.plus previous step.0) _ sum.0 (exact.plus previous step.0) (from_range _ _ sum.1)) worth;
        }

    -- and so it is if t is not above that
    pub next_under : (previous spacing tag t : T) (m : ℤ) (hz q k : ℕ) → IsSame (fraction spacing) (ratio hz q) → next_tag ops previous k spacing t ≡ Ok tag → NotAbove (fraction t) (m +ℤ pos (hz * k)) q → NotAbove (fraction previous) m q → NotAbove (fraction tag) (m +ℤ pos (hz * k)) q
    next_under previous spacing tag t m hz q k s e under h =
        let n = nexts previous spacing tag t m hz q k s e in
        let up = moved_under (fraction previous) (fraction n.sum) n.d m _ q (exact.denom previous) n.some n.more h in
        subst (λ x. NotAbove (fraction x) (m +ℤ pos (hz * k)) q) n.tag_is (greater n.sum (is_lt (ops.compare t n.sum)) up) where
          greater : (sum : T) (b : Bool) → NotAbove (fraction sum) (m +ℤ pos (hz * k)) q → NotAbove (fraction (cond b sum t)) (m +ℤ pos (hz * k)) q
          greater sum true h = h
          greater sum false _ = under

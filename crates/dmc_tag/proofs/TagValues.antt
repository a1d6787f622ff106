-- Which tags are values.
use Rattle.std.proofs.Common.{◌≡◌, ℕ, ◌*◌, ◌<◌, ◌≤◌, Bool, true, false, cond, Option, Some, None, refl, sym, ap, ◌∙◌, subst, arith}
use Rattle.std.specs.Prelude.{ℤ, pos, ◌+ℤ◌, ◌-ℤ◌, ◌*ℤ◌, Ok, IfSome}
use Rattle.std.specs.declared.cmp.Ordering.TheVariants.{Equal}
use Rattle.std.specs.Ordering.{is_lt, ord_max}
use Rattle.std.specs.Cmp.{int_cmp_is}
use Rattle.std.proofs.lemmas.Int.{ints}
use Rattle.dmc_types.specs.Limits.{max_moment}
use Rattle.dmc_types.specs.Values.{Params}
use Rattle.dmc_tag.specs.Outcome.{in_range}
use Rattle.dmc_tag.specs.Rules.{next_tag, next_reservation, next_tags}
use Rattle.dmc_tag.specs.declared.plain.Previous.{Previous}
use Rattle.dmc_tag.specs.declared.spacing.Spacings.{Spacings}
use Rattle.dmc_tag.specs.declared.reply.Tags.{Tags}
use Rattle.dmc_tag.specs.Tag.{Fraction, Tagging, IsExact, IsSame, Gives, whole, sum_of, difference_of}
use Rattle.dmc_tag.proofs.Scaled.{scaled_swapped, scaled_twice, scaled_cmp, zero_of}
use Rattle.dmc_tag.proofs.TagOrder.{positive, bound, from_range}

module _ {T : Type 0} (ops : Tagging T) (fraction : T → Fraction) (is_value : Fraction → Type 0) (exact : IsExact ops fraction is_value) where
  value_given : (o : Option T) (f : Fraction) (a : T) → 0 < f.denom → Gives fraction is_value o f → o ≡ Some a → is_value (fraction a)
  value_given None f a some g e = cc
  value_given (Some b) f a some g e =
      let same : b ≡ a = cc in
      subst (λ c. is_value (fraction c)) same (exact.same_value f (fraction b) some (exact.denom b) (sym g.1) g.0)

  pub moments_are_values : (n : ℕ) → n ≤ max_moment → is_value (fraction (ops.of_moment n))
  moments_are_values n h = exact.same_value (whole n) (fraction (ops.of_moment n)) (omega arith) (exact.denom (ops.of_moment n)) (sym (exact.of_moment n)) (exact.moments n h)

  sum_value : (a b c : T) → ops.plus a b ≡ Some c → is_value (fraction c)
  sum_value a b c e = value_given (ops.plus a b) (sum_of (fraction a) (fraction b)) c (positive _ _ (exact.denom a) (exact.denom b)) (exact.plus a b) e

  pub difference_value : (a b c : T) → ops.minus a b ≡ Some c → is_value (fraction c)
  difference_value a b c e = value_given (ops.minus a b) (difference_of (fraction a) (fraction b)) c (positive _ _ (exact.denom a) (exact.denom b)) (exact.minus a b) e

  pub differences_are_values : (a amount : T) → IfSome (ops.minus a amount) (λ x. is_value (fraction x))
  differences_are_values a amount = at (ops.minus a amount) refl where
    at : (o : Option T) → ops.minus a amount ≡ o → IfSome o (λ x. is_value (fraction x))
    at None e = tt
    at (Some x) e = difference_value a amount x e

  greater_value : (sum t : T) (b : Bool) → is_value (fraction sum) → is_value (fraction t) → is_value (fraction (cond b sum t))
  greater_value sum t true h k = h
  greater_value sum t false h k = k

  next_value : (previous spacing t tag : T) (k : ℕ) → is_value (fraction t) → next_tag ops previous k spacing t ≡ Ok tag → is_value (fraction tag)
  next_value previous spacing t tag k h e =
      let step = bound (in_range (ops.steps spacing k)) _ tag e in
      let sum = bound (in_range (ops.plus previous step.0)) _ tag step.2 in
      let tag_is : ord_max ops.compare sum.0 t ≡ tag = cc (sum.2) in
      subst (λ c. is_value (fraction c)) tag_is (greater_value sum.0 t (is_lt (ops.compare t sum.0)) (sum_value previous step.0 sum.0 (from_range _ _ sum.1)) h)

  pub weights_are_values : (spacings : Spacings T) (previous : Previous T) (params : Params) (t floor : T) (tags : Tags T) → is_value (fraction floor) → next_tags ops spacings previous params t floor ≡ Ok tags → is_value (fraction tags.p)
  weights_are_values spacings previous params t floor tags h e =
      let r = bound (next_reservation ops previous.r params.rho spacings.r t) _ tags e in
      let l = bound (next_tag ops previous.l params.delta spacings.l t) _ tags r.2 in
      let p = bound (next_tag ops previous.p params.delta spacings.p floor) _ tags l.2 in
      let share : p.0 ≡ tags.p = cc (p.2) in
      subst (λ c. is_value (fraction c)) share (next_value previous.p spacings.p floor p.0 params.delta h p.1)

  -- ---- two answers of one fraction are one

  pub one_tag : (a b : T) (f : Fraction) → 0 < f.denom → IsSame (fraction a) f → IsSame (fraction b) f → a ≡ b
  one_tag a b f some g h =
      let j = fraction a in
      let k = fraction b in
      let cross : (j.numer *ℤ pos k.denom) *ℤ pos f.denom ≡ (k.numer *ℤ pos j.denom) *ℤ pos f.denom =
      scaled_swapped j.numer k.denom f.denom
      ∙ ap (λ z. z *ℤ pos k.denom) g
      ∙ scaled_swapped f.numer j.denom k.denom
      ∙ ap (λ z. z *ℤ pos j.denom) (sym h)
      ∙ scaled_swapped k.numer f.denom j.denom in
      exact.same a b (exact.order a b ∙ scaled_cmp (j.numer *ℤ pos k.denom) (k.numer *ℤ pos j.denom) f.denom some ∙ sym (int_cmp_is _ _ Equal cross))

  pub one_answer : (o p : Option T) (f : Fraction) → 0 < f.denom → Gives fraction is_value o f → Gives fraction is_value p f → o ≡ p
  one_answer None None f some g h = refl
  one_answer None (Some b) f some g h = absurd (g h.0)
  one_answer (Some a) None f some g h = absurd (h g.0)
  one_answer (Some a) (Some b) f some g h = ap Some (one_tag a b f some g.1 h.1)

  -- ---- less nothing

  -- a tag less the tag of 0 is the fraction of the tag, over one more denominator
  less_zero : (a : T) → (fraction a).numer *ℤ pos (fraction (ops.of_moment 0)).denom -ℤ (fraction (ops.of_moment 0)).numer *ℤ pos (fraction a).denom ≡ (fraction a).numer *ℤ pos (fraction (ops.of_moment 0)).denom
  less_zero a =
      let z = fraction (ops.of_moment 0) in
      let none : z.numer ≡ pos 0 = zero_of z.numer z.denom (exact.of_moment 0) in
      let nothing : z.numer *ℤ pos (fraction a).denom ≡ pos 0 = ap (λ n. n *ℤ pos (fraction a).denom) none ∙ no_times (fraction a).denom in
      taken _ _ nothing
    where
      no_times : (d : ℕ) → pos 0 *ℤ pos d ≡ pos 0
      no_times d = let e : 0 * d ≡ 0 = omega arith in ap pos e

      taken : (x y : ℤ) → y ≡ pos 0 → x -ℤ y ≡ x
      taken x y e = omega (arith, ints)

  pub same_less : (a : T) → IsSame (fraction a) (difference_of (fraction a) (fraction (ops.of_moment 0)))
  same_less a =
      let z = fraction (ops.of_moment 0) in
      let f = fraction a in
      let turned : f.denom * z.denom ≡ z.denom * f.denom = omega arith in
      ap (λ n. f.numer *ℤ pos n) turned
      ∙ sym (scaled_twice f.numer z.denom f.denom)
      ∙ ap (λ x. x *ℤ pos f.denom) (sym (less_zero a))

  pub minus_nothing : (a : T) → is_value (fraction a) → ops.minus a (ops.of_moment 0) ≡ Some a
  minus_nothing a v =
      let z = ops.of_moment 0 in
      let some = positive _ _ (exact.denom a) (exact.denom z) in
      one_answer (ops.minus a z) (Some a) (difference_of (fraction a) (fraction z)) some (exact.minus a z) (exact.same_value (fraction a) _ (exact.denom a) some (same_less a) v, same_less a)

  -- ---- a sum turned round

  sum_turned : (f g : Fraction) → sum_of f g ≡ sum_of g f
  sum_turned f g =
      let numers : f.numer *ℤ pos g.denom +ℤ g.numer *ℤ pos f.denom ≡ g.numer *ℤ pos f.denom +ℤ f.numer *ℤ pos g.denom = turned (f.numer *ℤ pos g.denom) (g.numer *ℤ pos f.denom) in
      let denoms : f.denom * g.denom ≡ g.denom * f.denom = omega arith in
      ap (λ n. record { numer = n; denom = f.denom * g.denom }) numers ∙ ap (λ d. record { numer = (sum_of g f).numer; denom = d }) denoms
    where
      turned : (x y : ℤ) → x +ℤ y ≡ y +ℤ x
      turned x y = omega (arith, ints)

  pub plus_commutes : (a b : T) → ops.plus a b ≡ ops.plus b a
  plus_commutes a b =
      one_answer (ops.plus a b) (ops.plus b a) (sum_of (fraction a) (fraction b)) (positive _ _ (exact.denom a) (exact.denom b)) (exact.plus a b)
      (subst (Gives fraction is_value (ops.plus b a)) (sum_turned (fraction b) (fraction a)) (exact.plus b a))

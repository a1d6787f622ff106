-- What sums and differences keep of the order of tags.
use Rattle.std.proofs.Common.{◌≡◌, ℕ, ◌*◌, ◌<◌, Bool, true, false, cond, Option, Some, None, refl, sym, ap, ◌∙◌, subst, arith}
use Rattle.std.specs.Prelude.{ℤ, pos, ◌+ℤ◌, ◌-ℤ◌, ◌*ℤ◌, ◌≤ℤ◌, neg_ℤ, IfSome, is_some, Ok, Err, Result}
use Rattle.std.specs.declared.cmp.Ordering.{Ordering}
use Rattle.std.specs.declared.cmp.Ordering.TheVariants.{Less, Equal, Greater}
use Rattle.std.specs.Ordering.{int_cmp, is_gt, is_lt, ord_max, ordering_reverse}
use Rattle.std.specs.Cmp.{IsTotalOrder}
use Rattle.std.proofs.lemmas.Int.{ints}
use Rattle.std.proofs.lemmas.Cmp.{int_ranked, upto}
use Rattle.std.proofs.Math.Nat.{mul-lt-mul_of_pos_right}
use Rattle.std.specs.Option.{ok_or, unwrap_or}
use Rattle.std.proofs.Math.IntN.{*ℤ_comm}
use Rattle.dmc_types.specs.Values.{Rates, Params, AreRates, IsRate}
use Rattle.dmc_types.specs.declared.refusal.Field.{Field}
use Rattle.dmc_types.specs.declared.refusal.Field.TheVariants.{Reservation, Weight, Limit}
use Rattle.dmc_tag.specs.Outcome.{◌>>=◌, in_range}
use Rattle.dmc_tag.specs.Spacing.{spacing_of, optional_spacing, spacings_of}
use Rattle.dmc_tag.specs.Rules.{next_tag, next_reservation, next_tags}
use Rattle.dmc_tag.specs.declared.plain.Previous.{Previous}
use Rattle.dmc_tag.specs.declared.spacing.Spacings.{Spacings}
use Rattle.dmc_tag.specs.declared.reply.Tags.{Tags}
use Rattle.dmc_tag.specs.Tag.{Fraction, Tagging, IsExact, IsSame, Gives, fraction_cmp, sum_of, difference_of}
use Rattle.dmc_tag.specs.Order.{AtMost, AreSpacings, AreNext}
use Rattle.dmc_tag.proofs.Scaled.{not_above, scaled_twice, scaled_difference, scaled_negative, scaled_sum, scaled_cmp, less_cmp, zero_of, at_least_zero, zero_scaled, unscaled_le}

-- x is a less s, over the denominators of all
cleared : (xn an sn : ℤ) (xd ad sd yd bd : ℕ) → xn *ℤ pos (ad * sd) ≡ (an *ℤ pos sd -ℤ sn *ℤ pos ad) *ℤ pos xd → (xn *ℤ pos yd) *ℤ pos ((ad * sd) * (bd * sd)) ≡ (an *ℤ pos bd) *ℤ pos (sd * sd * xd * yd) -ℤ sn *ℤ pos (ad * bd * sd * xd * yd)
cleared xn an sn xd ad sd yd bd e =
    let m = xd * (yd * (bd * sd)) in
    let turn : yd * ((ad * sd) * (bd * sd)) ≡ (ad * sd) * (yd * (bd * sd)) = omega arith in
    let front : sd * m ≡ bd * (sd * sd * xd * yd) = omega arith in
    let back : ad * m ≡ ad * bd * sd * xd * yd = omega arith in
    scaled_twice xn yd ((ad * sd) * (bd * sd))
    ∙ ap (λ n. xn *ℤ pos n) turn
    ∙ sym (scaled_twice xn (ad * sd) (yd * (bd * sd)))
    ∙ ap (λ z. z *ℤ pos (yd * (bd * sd))) e
    ∙ scaled_twice (an *ℤ pos sd -ℤ sn *ℤ pos ad) xd (yd * (bd * sd))
    ∙ scaled_difference (an *ℤ pos sd) (sn *ℤ pos ad) m
    ∙ ap (λ z. z -ℤ (sn *ℤ pos ad) *ℤ pos m) (scaled_twice an sd m ∙ ap (λ n. an *ℤ pos n) front ∙ sym (scaled_twice an bd (sd * sd * xd * yd)))
    ∙ ap (λ z. (an *ℤ pos bd) *ℤ pos (sd * sd * xd * yd) -ℤ z) (scaled_twice sn ad m ∙ ap (λ n. sn *ℤ pos n) back)

pub positive : (a b : ℕ) → 0 < a → 0 < b → 0 < a * b
positive a b p q = let scaled : 0 * b < a * b = mul-lt-mul_of_pos_right p q in omega arith

-- two fractions less a third are ordered as the fractions are
pub less_ordered : (fa fb fs fx fy : Fraction) → 0 < fa.denom → 0 < fb.denom → 0 < fs.denom → 0 < fx.denom → 0 < fy.denom → IsSame fx (difference_of fa fs) → IsSame fy (difference_of fb fs) → fraction_cmp fx fy ≡ fraction_cmp fa fb
less_ordered fa fb fs fx fy da db ds dx dy p q =
    let scale = (fa.denom * fs.denom) * (fb.denom * fs.denom) in
    let left = fs.denom * fs.denom * fx.denom * fy.denom in
    let taken = fs.numer *ℤ pos (fa.denom * fb.denom * fs.denom * fx.denom * fy.denom) in
    let first : (fx.numer *ℤ pos fy.denom) *ℤ pos scale ≡ (fa.numer *ℤ pos fb.denom) *ℤ pos left -ℤ taken = cleared fx.numer fa.numer fs.numer fx.denom fa.denom fs.denom fy.denom fb.denom p in
    let turned : (fa.denom * fs.denom) * (fb.denom * fs.denom) ≡ (fb.denom * fs.denom) * (fa.denom * fs.denom) = omega arith in
    let left_turned : fs.denom * fs.denom * fy.denom * fx.denom ≡ left = omega arith in
    let taken_turned : fb.denom * fa.denom * fs.denom * fy.denom * fx.denom ≡ fa.denom * fb.denom * fs.denom * fx.denom * fy.denom = omega arith in
    let second : (fy.numer *ℤ pos fx.denom) *ℤ pos scale ≡ (fb.numer *ℤ pos fa.denom) *ℤ pos left -ℤ taken =
    ap (λ n. (fy.numer *ℤ pos fx.denom) *ℤ pos n) turned
    ∙ cleared fy.numer fb.numer fs.numer fy.denom fb.denom fs.denom fx.denom fa.denom q
    ∙ ap (λ n. (fb.numer *ℤ pos fa.denom) *ℤ pos n -ℤ fs.numer *ℤ pos (fb.denom * fa.denom * fs.denom * fy.denom * fx.denom)) left_turned
    ∙ ap (λ n. (fb.numer *ℤ pos fa.denom) *ℤ pos left -ℤ fs.numer *ℤ pos n) taken_turned in
    let some : 0 < scale = positive _ _ (positive _ _ da ds) (positive _ _ db ds) in
    let some_left : 0 < left = positive _ _ (positive _ _ (positive _ _ ds ds) dx) dy in
    scaled_cmp (fx.numer *ℤ pos fy.denom) (fy.numer *ℤ pos fx.denom) scale some
    ∙ ap (λ z. int_cmp z ((fy.numer *ℤ pos fx.denom) *ℤ pos scale)) first
    ∙ ap (λ z. int_cmp ((fa.numer *ℤ pos fb.denom) *ℤ pos left -ℤ taken) z) second
    ∙ sym (less_cmp ((fa.numer *ℤ pos fb.denom) *ℤ pos left) ((fb.numer *ℤ pos fa.denom) *ℤ pos left) taken)
    ∙ sym (scaled_cmp (fa.numer *ℤ pos fb.denom) (fb.numer *ℤ pos fa.denom) left some_left)

abbrev pub negated : Fraction → Fraction
negated f = record { numer = neg_ℤ f.numer; denom = f.denom }

-- a sum is the difference from the negated
sum_is : (f g : Fraction) → sum_of f g ≡ difference_of f (negated g)
sum_is f g =
    let numer_is : f.numer *ℤ pos g.denom +ℤ g.numer *ℤ pos f.denom ≡ f.numer *ℤ pos g.denom -ℤ neg_ℤ g.numer *ℤ pos f.denom = twice_negative _ (g.numer *ℤ pos f.denom) ∙ ap (λ z. f.numer *ℤ pos g.denom -ℤ z) (sym (scaled_negative g.numer f.denom)) in
    ap (λ n. record { numer = n; denom = f.denom * g.denom }) numer_is
  where
    twice_negative : (x y : ℤ) → x +ℤ y ≡ x -ℤ neg_ℤ y
    twice_negative x y = omega (arith, ints)

-- ---- what a chain of results came from

pub bound : {A B E : Type 0} (r : Result A E) (f : A → Result B E) (y : B) → (r >>= f) ≡ Ok y → (x : A) × (r ≡ Ok x) × (f x ≡ Ok y)
bound (Ok x) f y e = (x, refl, e)
bound (Err fault) f y e = cc

pub from_option : {A E : Type 0} (o : Option A) (fault : E) (x : A) → ok_or o fault ≡ Ok x → o ≡ Some x
from_option None fault x e = cc
from_option (Some y) fault x e = ap Some (cc (e))

pub from_range : {A : Type 0} (o : Option A) (x : A) → in_range o ≡ Ok x → o ≡ Some x
from_range o x e = from_option o _ x e

module _ {T : Type 0} (ops : Tagging T) (fraction : T → Fraction) (is_value : Fraction → Type 0) (exact : IsExact ops fraction is_value) where
  pub given : (o : Option T) (f : Fraction) (a : T) → Gives fraction is_value o f → o ≡ Some a → IsSame (fraction a) f
  given None f a g e = cc
  given (Some b) f a g e = let same : b ≡ a = cc in subst (λ c. IsSame (fraction c) f) same g.1

  -- two tags less an amount are ordered as the tags are
  pub minus_keeps_order : (a b amount x y : T) → ops.minus a amount ≡ Some x → ops.minus b amount ≡ Some y → ops.compare x y ≡ ops.compare a b
  minus_keeps_order a b amount x y p q =
      exact.order x y
      ∙ less_ordered (fraction a) (fraction b) (fraction amount) (fraction x) (fraction y) (exact.denom a) (exact.denom b) (exact.denom amount) (exact.denom x) (exact.denom y)
      (given (ops.minus a amount) _ x (exact.minus a amount) p)
      (given (ops.minus b amount) _ y (exact.minus b amount) q)
      ∙ sym (exact.order a b)

  -- and so are two tags and an amount
  pub plus_keeps_order : (a b amount x y : T) → ops.plus a amount ≡ Some x → ops.plus b amount ≡ Some y → ops.compare x y ≡ ops.compare a b
  plus_keeps_order a b amount x y p q =
      exact.order x y
      ∙ less_ordered (fraction a) (fraction b) (negated (fraction amount)) (fraction x) (fraction y) (exact.denom a) (exact.denom b) (exact.denom amount) (exact.denom x) (exact.denom y)
      (subst (IsSame (fraction x)) (sum_is (fraction a) (fraction amount)) (given (ops.plus a amount) _ x (exact.plus a amount) p))
      (subst (IsSame (fraction y)) (sum_is (fraction b) (fraction amount)) (given (ops.plus b amount) _ y (exact.plus b amount) q))
      ∙ sym (exact.order a b)

  -- ---- not below 0

  pub is_up_to : (x y : ℤ) (r : Ordering) → r ≡ int_cmp x y → is_gt r ≡ false → x ≤ℤ y
  is_up_to x y Less e h = let below = int_ranked x y Less e in omega (arith, ints)
  is_up_to x y Equal e h = let same = int_ranked x y Equal e in omega (arith, ints)
  is_up_to x y Greater e h = cc

  pub at_most_from : (a b : T) → ((fraction a).numer *ℤ pos (fraction b).denom) ≤ℤ ((fraction b).numer *ℤ pos (fraction a).denom) → AtMost ops a b
  at_most_from a b h = not_above _ _ _ (exact.order a b) h

  pub at_most_to : (a b : T) → AtMost ops a b → ((fraction a).numer *ℤ pos (fraction b).denom) ≤ℤ ((fraction b).numer *ℤ pos (fraction a).denom)
  at_most_to a b h = is_up_to _ _ _ (exact.order a b) h

  -- 0 is at most the tag exactly if its numerator is not below 0
  pub zero_to : (a : T) → AtMost ops (ops.of_moment 0) a → pos 0 ≤ℤ (fraction a).numer
  zero_to a h =
      let zero = fraction (ops.of_moment 0) in
      let none : zero.numer ≡ pos 0 = zero_of zero.numer zero.denom (exact.of_moment 0) in
      let cross : (pos 0 *ℤ pos (fraction a).denom) ≤ℤ ((fraction a).numer *ℤ pos zero.denom) = subst (λ z. (z *ℤ pos (fraction a).denom) ≤ℤ ((fraction a).numer *ℤ pos zero.denom)) none (at_most_to (ops.of_moment 0) a h) in
      at_least_zero (fraction a).numer zero.denom (exact.denom (ops.of_moment 0)) (zero_times (fraction a).denom _ cross) where
        zero_times : (d : ℕ) (z : ℤ) → (pos 0 *ℤ pos d) ≤ℤ z → pos 0 ≤ℤ z
        zero_times d z h = let e : 0 * d ≡ 0 = omega arith in subst (λ n. pos n ≤ℤ z) e h

  pub zero_from : (a : T) → pos 0 ≤ℤ (fraction a).numer → AtMost ops (ops.of_moment 0) a
  zero_from a h =
      let zero = fraction (ops.of_moment 0) in
      let none : zero.numer ≡ pos 0 = zero_of zero.numer zero.denom (exact.of_moment 0) in
      let e : 0 * (fraction a).denom ≡ 0 = omega arith in
      let cross : (pos 0 *ℤ pos (fraction a).denom) ≤ℤ ((fraction a).numer *ℤ pos zero.denom) = subst (λ n. pos n ≤ℤ ((fraction a).numer *ℤ pos zero.denom)) (sym e) (zero_scaled (fraction a).numer zero.denom h) in
      at_most_from (ops.of_moment 0) a (subst (λ z. (z *ℤ pos (fraction a).denom) ≤ℤ ((fraction a).numer *ℤ pos zero.denom)) (sym none) cross)

  -- the spacing of a rate is not below 0
  pub spacing_not_below : (hz rate : ℕ) (s : T) → 0 < rate → ops.spacing hz rate ≡ Some s → AtMost ops (ops.of_moment 0) s
  spacing_not_below hz rate s some e =
      let same : (fraction s).numer *ℤ pos rate ≡ pos hz *ℤ pos (fraction s).denom = given (ops.spacing hz rate) _ s (exact.spacing hz rate) e in
      let up : pos 0 ≤ℤ ((fraction s).numer *ℤ pos rate) = subst (λ z. pos 0 ≤ℤ z) (sym same) (zero_scaled (pos hz) (fraction s).denom (omega (arith, ints))) in
      zero_from s (at_least_zero (fraction s).numer rate some up)

  -- nor are steps of a spacing that is not
  pub steps_not_below : (s d : T) (k : ℕ) → AtMost ops (ops.of_moment 0) s → ops.steps s k ≡ Some d → pos 0 ≤ℤ (fraction d).numer
  steps_not_below s d k h e =
      let same : (fraction d).numer *ℤ pos (fraction s).denom ≡ (pos k *ℤ (fraction s).numer) *ℤ pos (fraction d).denom = given (ops.steps s k) _ d (exact.steps s k) e in
      let times : pos 0 ≤ℤ (pos k *ℤ (fraction s).numer) = subst (λ z. pos 0 ≤ℤ z) (*ℤ_comm (fraction s).numer (pos k)) (zero_scaled (fraction s).numer k (zero_to s h)) in
      at_least_zero (fraction d).numer (fraction s).denom (exact.denom s) (subst (λ z. pos 0 ≤ℤ z) (sym same) (zero_scaled _ (fraction d).denom times))

  -- a sum with what is not below 0 is not below the tag
  sum_not_below : (a d b : T) → pos 0 ≤ℤ (fraction d).numer → ops.plus a d ≡ Some b → AtMost ops a b
  sum_not_below a d b h e =
      let fa = fraction a in
      let fb = fraction b in
      let fd = fraction d in
      let same : fb.numer *ℤ pos (fa.denom * fd.denom) ≡ (fa.numer *ℤ pos fd.denom +ℤ fd.numer *ℤ pos fa.denom) *ℤ pos fb.denom = given (ops.plus a d) _ b (exact.plus a d) e in
      let left : (fa.numer *ℤ pos fb.denom) *ℤ pos fd.denom ≡ (fa.numer *ℤ pos fd.denom) *ℤ pos fb.denom = scaled_twice fa.numer fb.denom fd.denom ∙ ap (λ n. fa.numer *ℤ pos n) (omega arith) ∙ sym (scaled_twice fa.numer fd.denom fb.denom) in
      let right : (fb.numer *ℤ pos fa.denom) *ℤ pos fd.denom ≡ (fa.numer *ℤ pos fd.denom) *ℤ pos fb.denom +ℤ (fd.numer *ℤ pos fa.denom) *ℤ pos fb.denom = scaled_twice fb.numer fa.denom fd.denom ∙ same ∙ scaled_sum (fa.numer *ℤ pos fd.denom) (fd.numer *ℤ pos fa.denom) fb.denom in
      let more : pos 0 ≤ℤ ((fd.numer *ℤ pos fa.denom) *ℤ pos fb.denom) = zero_scaled _ fb.denom (zero_scaled fd.numer fa.denom h) in
      let upto : ((fa.numer *ℤ pos fb.denom) *ℤ pos fd.denom) ≤ℤ ((fb.numer *ℤ pos fa.denom) *ℤ pos fd.denom) = added _ _ _ _ left right more in
      at_most_from a b (unscaled_le (fa.numer *ℤ pos fb.denom) (fb.numer *ℤ pos fa.denom) fd.denom (exact.denom d) upto) where
        added : (x y u v : ℤ) → x ≡ u → y ≡ u +ℤ v → pos 0 ≤ℤ v → x ≤ℤ y
        added x y u v p q h = omega (arith, ints)

  -- ---- assignment

  module _ (order : IsTotalOrder ops.compare) where
    pub not_behind : (a b : T) (r : Ordering) → ops.compare b a ≡ r → is_lt r ≡ false → AtMost ops a b
    not_behind a b Less p h = cc
    not_behind a b Equal p h = ap is_gt (order.antisymm a b ∙ ap ordering_reverse p)
    not_behind a b Greater p h = ap is_gt (order.antisymm a b ∙ ap ordering_reverse p)

    greater_not_below : (a sum t : T) (b : Bool) → is_lt (ops.compare t sum) ≡ b → AtMost ops a sum → AtMost ops a (cond b sum t)
    greater_not_below a sum t true e h = h
    greater_not_below a sum t false e h = upto order a sum t h (not_behind sum t _ refl e)

    next_tag_not_below : (previous spacing t tag : T) (k : ℕ) → AtMost ops (ops.of_moment 0) spacing → next_tag ops previous k spacing t ≡ Ok tag → AtMost ops previous tag
    next_tag_not_below previous spacing t tag k h e =
        let step = bound (in_range (ops.steps spacing k)) _ tag e in
        let sum = bound (in_range (ops.plus previous step.0)) _ tag step.2 in
        let up = sum_not_below previous step.0 sum.0 (steps_not_below spacing step.0 k h (from_range _ _ step.1)) (from_range _ _ sum.1) in
        let tag_is : ord_max ops.compare sum.0 t ≡ tag = cc (sum.2) in
        subst (AtMost ops previous) tag_is (greater_not_below previous sum.0 t _ refl up)

    next_reservation_not_below : (previous t : T) (k : ℕ) (spacing tag : Option T) → IfSome spacing (AtMost ops (ops.of_moment 0)) → next_reservation ops previous k spacing t ≡ Ok tag → (is_some tag ≡ is_some spacing) × IfSome tag (AtMost ops previous)
    next_reservation_not_below previous t k None None h e = (refl, tt)
    next_reservation_not_below previous t k None (Some tag) h e = cc
    next_reservation_not_below previous t k (Some spacing) tag h e =
        let found = bound (next_tag ops previous k spacing t) _ tag e in
        let tag_is : Some found.0 ≡ tag = cc (found.2) in
        subst (λ o. (is_some o ≡ true) × IfSome o (AtMost ops previous)) tag_is (refl, next_tag_not_below previous spacing t found.0 k h found.1)

    pub next_tags_follow : (info : Rates) (spacings : Spacings T) (previous : Previous T) (params : Params) (t floor : T) (tags : Tags T) → AreSpacings ops info spacings → next_tags ops spacings previous params t floor ≡ Ok tags → AreNext ops info previous tags
    next_tags_follow info spacings previous params t floor tags are e =
        let r = bound (next_reservation ops previous.r params.rho spacings.r t) _ tags e in
        let l = bound (next_tag ops previous.l params.delta spacings.l t) _ tags r.2 in
        let p = bound (next_tag ops previous.p params.delta spacings.p floor) _ tags l.2 in
        let tags_are : record { r = r.0; l = l.0; p = p.0 } ≡ tags = cc (p.2) in
        let reserved = next_reservation_not_below previous.r t params.rho spacings.r r.0 are.r r.1 in
        subst (AreNext ops info previous) tags_are (record {
          reserved = reserved.0 ∙ are.reserved;
          r = reserved.1;
          l = next_tag_not_below previous.l spacings.l t l.0 params.delta are.l l.1;
          p = next_tag_not_below previous.p spacings.p floor p.0 params.delta are.p p.1;
        })

  -- ---- spacings

  optional_not_below : (hz : ℕ) (field : Field) (rate : Option ℕ) (spacing : Option T) → IfSome rate IsRate → optional_spacing ops hz field rate ≡ Ok spacing → (is_some spacing ≡ is_some rate) × IfSome spacing (AtMost ops (ops.of_moment 0))
  optional_not_below hz field None None some e = (refl, tt)
  optional_not_below hz field None (Some s) some e = cc
  optional_not_below hz field (Some rate) spacing some e =
      let found = bound (spacing_of ops hz field rate) _ spacing e in
      let spacing_is : Some found.0 ≡ spacing = cc (found.2) in
      subst (λ o. (is_some o ≡ true) × IfSome o (AtMost ops (ops.of_moment 0))) spacing_is (refl, spacing_not_below hz rate found.0 some (from_option _ _ _ found.1))

  or_zero_not_below : (l : Option T) → IfSome l (AtMost ops (ops.of_moment 0)) → AtMost ops (ops.of_moment 0) (unwrap_or l (ops.of_moment 0))
  or_zero_not_below None h = let zero = fraction (ops.of_moment 0) in zero_from (ops.of_moment 0) (subst (λ z. pos 0 ≤ℤ z) (sym (zero_of zero.numer zero.denom (exact.of_moment 0))) (omega (arith, ints)))
  or_zero_not_below (Some l) h = h

  pub spacings_not_below : (hz : ℕ) (info : Rates) (spacings : Spacings T) → AreRates info.reservation info.weight info.limit → spacings_of ops hz info ≡ Ok spacings → AreSpacings ops info spacings
  spacings_not_below hz info spacings rates e =
      let r = bound (optional_spacing ops hz Reservation info.reservation) _ spacings e in
      let p = bound (spacing_of ops hz Weight info.weight) _ spacings r.2 in
      let l = bound (optional_spacing ops hz Limit info.limit) _ spacings p.2 in
      let spacings_are : record { r = r.0; l = unwrap_or l.0 (ops.of_moment 0); p = p.0 } ≡ spacings = cc (l.2) in
      let reserved = optional_not_below hz Reservation info.reservation r.0 rates.reserved r.1 in
      let limited = optional_not_below hz Limit info.limit l.0 rates.limited l.1 in
      subst (AreSpacings ops info) spacings_are (record {
        reserved = reserved.0;
        r = reserved.1;
        l = or_zero_not_below l.0 limited.1;
        p = spacing_not_below hz info.weight p.0 rates.weighed (from_option _ _ _ p.1);
      })

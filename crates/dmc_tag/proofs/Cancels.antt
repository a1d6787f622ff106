-- How tags fall when requests before them are cancelled: what they stay above.
use Rattle.std.proofs.Common.{◌≡◌, ℕ, ◌*◌, ◌<◌, Bool, true, false, cond, Option, Some, None, refl, sym, ap, ◌∙◌, subst, arith}
use Rattle.std.specs.Prelude.{ℤ, pos, ◌+ℤ◌, ◌-ℤ◌, ◌*ℤ◌, ◌≤ℤ◌, neg_ℤ, is_some, ◌&&◌, if◌then◌else◌, IfSome, Ok, Err, Result, ⊤}
use Rattle.std.specs.Cmp.{IsTotalOrder}
use Rattle.std.specs.Ordering.{int_cmp, is_gt, is_lt, ord_min, ord_max}
use Rattle.std.specs.Option.{unwrap_or, option_map_or}
use Rattle.std.specs.declared.cmp.Ordering.{Ordering}
use Rattle.std.specs.declared.cmp.Ordering.TheVariants.{Less, Equal, Greater}
use Rattle.std.proofs.lemmas.Cmp.{upto}
use Rattle.std.proofs.lemmas.Int.{ints}
use Rattle.dmc_tag.specs.Cancel.{charge, charges_of, lower, fall_of, behind, fallen, most_given, without_charge, level_after, before_next, level}
use Rattle.dmc_tag.specs.Order.{AtMost, AreSpacings, NotBelow}
use Rattle.dmc_types.specs.Values.{Rates, Params}
use Rattle.dmc_types.specs.declared.config.Counting.{Counting}
use Rattle.dmc_types.specs.declared.config.Counting.TheVariants.{All, Others}
use Rattle.dmc_tag.specs.declared.plain.Previous.{Previous}
use Rattle.dmc_tag.specs.declared.plain.Slack.{Slack}
use Rattle.dmc_tag.specs.declared.reply.Tags.{Tags}
use Rattle.dmc_tag.specs.declared.spacing.Spacings.{Spacings}
use Rattle.dmc_tag.specs.Outcome.{◌>>=◌, in_range}
use Rattle.dmc_tag.specs.Rules.{above, less, has_less, slack_behind, slack_of, next_tag, next_reservation, next_tags}
use Rattle.dmc_tag.specs.Tag.{Fraction, Tagging, IsExact, IsSame, fraction_cmp, difference_of}
use Rattle.dmc_tag.proofs.Scaled.{scaled_twice, scaled_swapped, scaled_negative, scaled_difference, scaled_le, unscaled_le, less_cmp, not_above, at_least_zero, zero_scaled}
use Rattle.dmc_tag.specs.declared.cancel.Before.{Before}
use Rattle.dmc_tag.specs.declared.cancel.Level.{Level}
use Rattle.dmc_tag.proofs.TagValues.{same_less, difference_value}
use Rattle.dmc_tag.proofs.Upto.{at_most_itself}
use Rattle.dmc_tag.proofs.TagOrder.{positive, bound, given, less_ordered, negated, at_most_from, at_most_to, zero_to, zero_from, steps_not_below, not_behind, is_up_to}

-- ---- fractions

abbrev up_to : Fraction → Fraction → Type 0
up_to a b = (a.numer *ℤ pos b.denom) ≤ℤ (b.numer *ℤ pos a.denom)

-- the order of fractions goes on over a third
over : (a b c : Fraction) → 0 < b.denom → up_to a b → up_to b c → up_to a c
over a b c some h k =
    let first = scaled_le (a.numer *ℤ pos b.denom) (b.numer *ℤ pos a.denom) c.denom h in
    let second = scaled_le (b.numer *ℤ pos c.denom) (c.numer *ℤ pos b.denom) a.denom k in
    unscaled_le (a.numer *ℤ pos c.denom) (c.numer *ℤ pos a.denom) b.denom some
    (joined _ _ _ _ _ _ (scaled_swapped a.numer c.denom b.denom) first (scaled_swapped b.numer a.denom c.denom) second (scaled_swapped c.numer b.denom a.denom))
  where
    joined : (x y u v w z : ℤ) → x ≡ y → y ≤ℤ u → u ≡ v → v ≤ℤ w → w ≡ z → x ≤ℤ z
    joined x y u v w z p h q k r = omega (arith, ints)

-- the order of negated numbers is turned round
turned_cmp : (x y : ℤ) → int_cmp (neg_ℤ x) (neg_ℤ y) ≡ int_cmp y x
turned_cmp x y =
    let left : y -ℤ (x +ℤ y) ≡ neg_ℤ x = omega (arith, ints) in
    let right : x -ℤ (x +ℤ y) ≡ neg_ℤ y = omega (arith, ints) in
    sym (less_cmp y x (x +ℤ y) ∙ ap (λ z. int_cmp z (x -ℤ (x +ℤ y))) left ∙ ap (λ z. int_cmp (neg_ℤ x) z) right)

-- a difference is that of the negated, turned round
difference_turned : (b y : Fraction) → IsSame (difference_of b y) (difference_of (negated y) (negated b))
difference_turned b y =
    let denoms : y.denom * b.denom ≡ b.denom * y.denom = omega arith in
    let numers : b.numer *ℤ pos y.denom -ℤ y.numer *ℤ pos b.denom ≡ neg_ℤ y.numer *ℤ pos b.denom -ℤ neg_ℤ b.numer *ℤ pos y.denom =
    crossed (b.numer *ℤ pos y.denom) (y.numer *ℤ pos b.denom) ∙ ap (λ z. z -ℤ neg_ℤ (b.numer *ℤ pos y.denom)) (sym (scaled_negative y.numer b.denom)) ∙ ap (λ z. neg_ℤ y.numer *ℤ pos b.denom -ℤ z) (sym (scaled_negative b.numer y.denom)) in
    ap (λ n. (b.numer *ℤ pos y.denom -ℤ y.numer *ℤ pos b.denom) *ℤ pos n) denoms ∙ ap (λ z. z *ℤ pos (b.denom * y.denom)) numers
  where
    crossed : (x z : ℤ) → x -ℤ z ≡ neg_ℤ z -ℤ neg_ℤ x
    crossed x z = omega (arith, ints)

same_over : (a b c : Fraction) → 0 < b.denom → IsSame a b → IsSame b c → IsSame a c
same_over a b c some p q = equal _ _ (over a b c some (le _ _ p) (le _ _ q)) (over c b a some (le _ _ (sym q)) (le _ _ (sym p))) where
  le : (x y : ℤ) → x ≡ y → x ≤ℤ y
  le x y e = omega (arith, ints)

  equal : (x y : ℤ) → x ≤ℤ y → y ≤ℤ x → x ≡ y
  equal x y h k = omega (arith, ints)

-- what less is taken from is greater
turned : (b y d u v : Fraction) → 0 < b.denom → 0 < y.denom → 0 < d.denom → 0 < u.denom → 0 < v.denom → IsSame u (difference_of b y) → IsSame v (difference_of b d) → fraction_cmp u v ≡ fraction_cmp d y
turned b y d u v sb sy sd su sv p q =
    less_ordered (negated y) (negated d) (negated b) u v sy sd sb su sv
    (same_over u (difference_of b y) _ (positive _ _ sb sy) p (difference_turned b y))
    (same_over v (difference_of b d) _ (positive _ _ sb sd) q (difference_turned b d))
    ∙ ap (λ z. int_cmp z (neg_ℤ d.numer *ℤ pos y.denom)) (scaled_negative y.numer d.denom)
    ∙ ap (λ z. int_cmp (neg_ℤ (y.numer *ℤ pos d.denom)) z) (scaled_negative d.numer y.denom)
    ∙ turned_cmp (y.numer *ℤ pos d.denom) (d.numer *ℤ pos y.denom)

-- d is r less p: then p is r less d
swapped : (r p d : Fraction) → 0 < r.denom → IsSame d (difference_of r p) → IsSame p (difference_of r d)
swapped r p d some e =
    let whole : (d.numer *ℤ pos r.denom) *ℤ pos p.denom ≡ (r.numer *ℤ pos p.denom) *ℤ pos d.denom -ℤ (p.numer *ℤ pos r.denom) *ℤ pos d.denom =
    scaled_twice d.numer r.denom p.denom ∙ e ∙ scaled_difference (r.numer *ℤ pos p.denom) (p.numer *ℤ pos r.denom) d.denom in
    let left : p.numer *ℤ pos (r.denom * d.denom) ≡ (p.numer *ℤ pos r.denom) *ℤ pos d.denom = sym (scaled_twice p.numer r.denom d.denom) in
    let right : (r.numer *ℤ pos d.denom -ℤ d.numer *ℤ pos r.denom) *ℤ pos p.denom ≡ (r.numer *ℤ pos p.denom) *ℤ pos d.denom -ℤ (d.numer *ℤ pos r.denom) *ℤ pos p.denom =
    scaled_difference (r.numer *ℤ pos d.denom) (d.numer *ℤ pos r.denom) p.denom ∙ ap (λ z. z -ℤ (d.numer *ℤ pos r.denom) *ℤ pos p.denom) (scaled_swapped r.numer d.denom p.denom) in
    left ∙ moved _ _ _ whole ∙ sym right
  where
    moved : (x y z : ℤ) → x ≡ y -ℤ z → z ≡ y -ℤ x
    moved x y z e = omega (arith, ints)

module _ {T : Type 0} (ops : Tagging T) (fraction : T → Fraction) (is_value : Fraction → Type 0) (exact : IsExact ops fraction is_value) where
  abbrev zero_tag : T
  zero_tag = ops.of_moment 0

  difference : (a m x : T) → ops.minus a m ≡ Some x → IsSame (fraction x) (difference_of (fraction a) (fraction m))
  difference a m x e = given ops fraction is_value exact (ops.minus a m) _ x (exact.minus a m) e

  -- Of two tags in order, the second falls no further than the first fell: it stays above what the first is now.
  pub falls_no_further : (was now_at fall b amount x : T) → ops.minus was now_at ≡ Some fall → AtMost ops amount fall → AtMost ops was b → ops.minus b amount ≡ Some x → AtMost ops now_at x
  falls_no_further was now_at fall b amount x p h k q =
      let fb = fraction b in
      let ff = fraction fall in
      let middle = difference_of fb ff in
      let wide = positive _ _ (exact.denom b) (exact.denom fall) in
      let first : fraction_cmp (fraction now_at) middle ≡ ops.compare was b =
      less_ordered (fraction was) fb ff (fraction now_at) middle (exact.denom was) (exact.denom b) (exact.denom fall) (exact.denom now_at) wide
      (swapped (fraction was) (fraction now_at) ff (exact.denom was) (difference was now_at fall p)) refl ∙ sym (exact.order was b) in
      let second : fraction_cmp middle (fraction x) ≡ ops.compare amount fall =
      turned fb ff (fraction amount) middle (fraction x) (exact.denom b) (exact.denom fall) (exact.denom amount) wide (exact.denom x) refl (difference b amount x q) ∙ sym (exact.order amount fall) in
      at_most_from ops fraction is_value exact now_at x (over (fraction now_at) middle (fraction x) wide (is_up_to ops fraction is_value exact _ _ _ (sym first) k) (is_up_to ops fraction is_value exact _ _ _ (sym second) h))

  -- what is at least an amount is, less the amount, at least 0
  pub stays_above_zero : (a amount x : T) → AtMost ops amount a → ops.minus a amount ≡ Some x → AtMost ops zero_tag x
  stays_above_zero a amount x h e =
      let fa = fraction a in
      let fm = fraction amount in
      let more : pos 0 ≤ℤ (fa.numer *ℤ pos fm.denom -ℤ fm.numer *ℤ pos fa.denom) = apart _ _ (at_most_to ops fraction is_value exact amount a h) in
      zero_from ops fraction is_value exact x (at_least_zero (fraction x).numer (fa.denom * fm.denom) (positive _ _ (exact.denom a) (exact.denom amount))
      (subst (λ z. pos 0 ≤ℤ z) (sym (difference a amount x e)) (zero_scaled _ (fraction x).denom more)))
    where
      apart : (x y : ℤ) → x ≤ℤ y → pos 0 ≤ℤ (y -ℤ x)
      apart x y h = omega (arith, ints)

  -- less an amount that is at least 0 is not above
  pub not_above_less : (a amount x : T) → AtMost ops zero_tag amount → ops.minus a amount ≡ Some x → AtMost ops x a
  not_above_less a amount x h e =
      let fa = fraction a in
      let fm = fraction amount in
      let fx = fraction x in
      let more : pos 0 ≤ℤ ((fm.numer *ℤ pos fa.denom) *ℤ pos fx.denom) = zero_scaled _ fx.denom (zero_scaled fm.numer fa.denom (zero_to ops fraction is_value exact amount h)) in
      let left : (fx.numer *ℤ pos fa.denom) *ℤ pos fm.denom ≡ (fa.numer *ℤ pos fm.denom) *ℤ pos fx.denom -ℤ (fm.numer *ℤ pos fa.denom) *ℤ pos fx.denom =
      scaled_twice fx.numer fa.denom fm.denom ∙ difference a amount x e ∙ scaled_difference (fa.numer *ℤ pos fm.denom) (fm.numer *ℤ pos fa.denom) fx.denom in
      at_most_from ops fraction is_value exact x a (unscaled_le _ _ fm.denom (exact.denom amount) (lessened _ _ _ _ left (scaled_swapped fa.numer fx.denom fm.denom) more))
    where
      lessened : (u v w z : ℤ) → u ≡ v -ℤ w → z ≡ v → pos 0 ≤ℤ w → u ≤ℤ z
      lessened u v w z p q h = omega (arith, ints)

  module _ (order : IsTotalOrder ops.compare) where
    -- ---- the lesser of two

    pub least_left : (a b : T) → AtMost ops (ord_min ops.compare a b) a
    least_left a b = at (is_lt (ops.compare b a)) refl where
      at : (c : Bool) → is_lt (ops.compare b a) ≡ c → AtMost ops (cond c b a) a
      at true e = at_most (ops.compare b a) refl e where
        at_most : (r : Ordering) → ops.compare b a ≡ r → is_lt r ≡ true → AtMost ops b a
        at_most Less p h = ap is_gt p
        at_most Equal p h = cc
        at_most Greater p h = cc
      at false e = at_most_itself ops order a

    pub least_right : (a b : T) → AtMost ops (ord_min ops.compare a b) b
    least_right a b = at (is_lt (ops.compare b a)) refl where
      at : (c : Bool) → is_lt (ops.compare b a) ≡ c → AtMost ops (cond c b a) b
      at true e = at_most_itself ops order b
      at false e = not_behind ops fraction is_value exact order a b (ops.compare b a) refl e

    pub least_above : (z a b : T) → AtMost ops z a → AtMost ops z b → AtMost ops z (ord_min ops.compare a b)
    least_above z a b h k = at (is_lt (ops.compare b a)) where
      at : (c : Bool) → AtMost ops z (cond c b a)
      at true = k
      at false = h

    -- ---- a tag less another, or nothing

    pub above_not_below : (tag floor : T) → AtMost ops floor tag → AtMost ops zero_tag (above ops tag floor)
    above_not_below tag floor h = at (ops.minus tag floor) refl where
      at : (o : Option T) → ops.minus tag floor ≡ o → AtMost ops zero_tag (unwrap_or o zero_tag)
      at None e = at_most_itself ops order zero_tag
      at (Some x) e = stays_above_zero tag floor x h e

    -- less an amount that is at most 0 is not below
    not_below_less : (a amount x : T) → AtMost ops amount zero_tag → ops.minus a amount ≡ Some x → AtMost ops a x
    not_below_less a amount x h e =
        let fa = fraction a in
        let fz = fraction zero_tag in
        let middle = difference_of fa fz in
        let wide = positive _ _ (exact.denom a) (exact.denom zero_tag) in
        let first : fraction_cmp middle (fraction x) ≡ ops.compare amount zero_tag =
        turned fa fz (fraction amount) middle (fraction x) (exact.denom a) (exact.denom zero_tag) (exact.denom amount) wide (exact.denom x) refl (difference a amount x e) ∙ sym (exact.order amount zero_tag) in
        at_most_from ops fraction is_value exact a x (over fa middle (fraction x) wide (up_to_same fa middle (same_less ops fraction is_value exact a)) (is_up_to ops fraction is_value exact _ _ _ (sym first) h))
      where
        up_to_same : (f g : Fraction) → IsSame f g → up_to f g
        up_to_same f g e = le _ _ e where
          le : (x y : ℤ) → x ≡ y → x ≤ℤ y
          le x y e = omega (arith, ints)

    -- of two tags in order, the second falls no further than the first fell
    within_fall : (was now_at b amount x : T) → AtMost ops amount (above ops was now_at) → AtMost ops now_at was → AtMost ops was b → ops.minus b amount ≡ Some x → AtMost ops now_at x
    within_fall was now_at b amount x h fell k e = at (ops.minus was now_at) refl h where
      at : (o : Option T) → ops.minus was now_at ≡ o → AtMost ops amount (unwrap_or o zero_tag) → AtMost ops now_at x
      at (Some fall) p m = falls_no_further was now_at fall b amount x p m k e
      at None p m = upto order now_at b x (upto order now_at was b fell k) (not_below_less b amount x m e)

    -- ---- one level

    -- what a level is after an amount was taken off, if tag and slack stay values
    lowered : (P : Level T → Type 0) (amount : T) (l : Level T) → P l → ((tag slack : T) → ops.minus l.tag amount ≡ Some tag → ops.minus l.slack amount ≡ Some slack → P (level tag slack)) → P (lower ops amount l)
    lowered P amount l kept made = at (ops.minus l.tag amount) (ops.minus l.slack amount) refl refl where
      at : (o p : Option T) → ops.minus l.tag amount ≡ o → ops.minus l.slack amount ≡ p → P (if is_some o && is_some p then level (unwrap_or o l.tag) (unwrap_or p l.slack) else l)
      at (Some tag) (Some slack) e f = made tag slack e f
      at (Some tag) None e f = kept
      at None p e f = kept

    -- a value stays one
    lower_value : (amount : T) (l : Level T) → is_value (fraction l.tag) → is_value (fraction (lower ops amount l).tag)
    lower_value amount l h = lowered (λ m. is_value (fraction m.tag)) amount l h (λ tag slack e f. difference_value ops fraction is_value exact l.tag amount tag e)

    pub lower_not_above : (amount : T) (l : Level T) → AtMost ops zero_tag amount → AtMost ops (lower ops amount l).tag l.tag
    lower_not_above amount l h = lowered (λ m. AtMost ops m.tag l.tag) amount l (at_most_itself ops order l.tag) (λ tag slack e f. not_above_less l.tag amount tag h e)

    pub lower_slack : (amount : T) (l : Level T) → AtMost ops amount l.slack → AtMost ops zero_tag l.slack → AtMost ops zero_tag (lower ops amount l).slack
    lower_slack amount l h k = lowered (λ m. AtMost ops zero_tag m.slack) amount l k (λ tag slack e f. stays_above_zero l.slack amount slack h f)

    lower_above : (was now_at amount : T) (l : Level T) → AtMost ops amount (above ops was now_at) → AtMost ops now_at was → AtMost ops was l.tag → AtMost ops now_at (lower ops amount l).tag
    lower_above was now_at amount l h fell k = lowered (λ m. AtMost ops now_at m.tag) amount l (upto order now_at was l.tag fell k) (λ tag slack e f. within_fall was now_at l.tag amount tag h fell k e)

    -- ---- what became of the request before

    -- its tag did not rise, and its slack is at least 0
    pub record Fell (before : Before T) : Type 0 where
      pub fell : AtMost ops before.level.tag before.was
      pub slack : AtMost ops zero_tag before.level.slack

    abbrev pub IsBefore : Option (Before T) → T → Type 0
    IsBefore None tag = ⊤
    IsBefore (Some before) tag = Fell before × AtMost ops before.was tag

    -- the tag before, if there is one, is not above a tag
    abbrev pub IsAbove : Option (Before T) → T → Type 0
    IsAbove None tag = ⊤
    IsAbove (Some before) tag = AtMost ops before.level.tag tag

    fall_not_below : (before : Option (Before T)) (tag : T) → IsBefore before tag → AtMost ops zero_tag (fall_of ops before)
    fall_not_below None tag h = at_most_itself ops order zero_tag
    fall_not_below (Some before) tag h = above_not_below before.was before.level.tag h.0.fell

    behind_tag : (before : Option (Before T)) (l : Level T) → (behind ops before l).tag ≡ l.tag
    behind_tag None l = refl
    behind_tag (Some before) l = refl

    behind_slack : (before : Option (Before T)) (tag : T) (l : Level T) → IsBefore before tag → AtMost ops zero_tag l.slack → AtMost ops zero_tag (behind ops before l).slack
    behind_slack None tag l h k = k
    behind_slack (Some before) tag l h k = at before.cancelled where
      at : (c : Bool) → AtMost ops zero_tag (slack_behind ops c before.level.slack l.slack)
      at true = least_above zero_tag before.level.slack l.slack h.0.slack k
      at false = k

    pub fallen_value : (before : Option (Before T)) (l : Level T) → is_value (fraction l.tag) → is_value (fraction (fallen ops before l).tag)
    fallen_value before l h = subst (λ tag. is_value (fraction tag)) (sym (behind_tag before (lower ops (ord_min ops.compare (fall_of ops before) l.slack) l))) (lower_value (ord_min ops.compare (fall_of ops before) l.slack) l h)

    module _ (before : Option (Before T)) (l : Level T) (is : IsBefore before l.tag) (slack : AtMost ops zero_tag l.slack) where
      abbrev reach : T
      reach = ord_min ops.compare (fall_of ops before) l.slack

      fallen_tag : (fallen ops before l).tag ≡ (lower ops reach l).tag
      fallen_tag = behind_tag before (lower ops reach l)

      pub fallen_not_above : AtMost ops (fallen ops before l).tag l.tag
      fallen_not_above = subst (λ tag. AtMost ops tag l.tag) (sym fallen_tag) (lower_not_above reach l (least_above zero_tag (fall_of ops before) l.slack (fall_not_below before l.tag is) slack))

      pub fallen_slack : AtMost ops zero_tag (fallen ops before l).slack
      fallen_slack = behind_slack before l.tag (lower ops reach l) is (lower_slack reach l (least_right (fall_of ops before) l.slack) slack)

      pub fallen_above : IsAbove before (fallen ops before l).tag
      fallen_above = at before refl where
        at : (b : Option (Before T)) → before ≡ b → IsAbove b (fallen ops before l).tag
        at None e = tt
        at (Some b) e =
            let is_b : IsBefore (Some b) l.tag = subst (λ o. IsBefore o l.tag) e is in
            let most : AtMost ops reach (above ops b.was b.level.tag) = subst (λ o. AtMost ops reach (fall_of ops o)) e (least_left (fall_of ops before) l.slack) in
            subst (λ tag. AtMost ops b.level.tag tag) (sym fallen_tag) (lower_above b.was b.level.tag reach l most is_b.0.fell is_b.1)

      -- a cancelled request's place falls no further than to that of the request before
      module _ (charged : T) (some : AtMost ops zero_tag charged) where
        abbrev here : Level T
        here = fallen ops before l

        abbrev returned : T
        returned = ord_min ops.compare charged (most_given ops before here)

        most_not_below : (b : Option (Before T)) → IsAbove b here.tag → AtMost ops zero_tag (most_given ops b here)
        most_not_below None h = fallen_slack
        most_not_below (Some b) h = least_above zero_tag (above ops here.tag b.level.tag) here.slack (above_not_below here.tag b.level.tag h) fallen_slack

        most_in_slack : (b : Option (Before T)) → AtMost ops (most_given ops b here) here.slack
        most_in_slack None = at_most_itself ops order here.slack
        most_in_slack (Some b) = least_right (above ops here.tag b.level.tag) here.slack

        place_not_above : AtMost ops (without_charge ops charged before here).tag l.tag
        place_not_above = upto order _ here.tag l.tag (lower_not_above returned here (least_above zero_tag charged _ some (most_not_below before fallen_above))) fallen_not_above

        place_slack : AtMost ops zero_tag (without_charge ops charged before here).slack
        place_slack = lower_slack returned here (upto order returned _ here.slack (least_right charged (most_given ops before here)) (most_in_slack before)) fallen_slack

        place_above : (b : Option (Before T)) → AtMost ops returned (most_given ops b here) → IsAbove b here.tag → IsAbove b (lower ops returned here).tag
        place_above None h k = tt
        place_above (Some b) h k = lower_above here.tag b.level.tag returned here (upto order returned _ _ h (least_left (above ops here.tag b.level.tag) here.slack)) k (at_most_itself ops order here.tag)

        -- so what became of a request, cancelled or not, is what the next one may go by
        pub next_fell : (cancelled : Bool) → Fell (before_next ops cancelled charged before l)
        next_fell true = record { fell = place_not_above; slack = place_slack }
        next_fell false = record { fell = fallen_not_above; slack = fallen_slack }

        pub next_above : (cancelled : Bool) → IsAbove before (before_next ops cancelled charged before l).level.tag
        next_above true = place_above before (least_right charged (most_given ops before here)) fallen_above
        next_above false = fallen_above

    -- ---- what is charged, and the slack of a request that arrives

    charge_not_below : (spacing : Option T) (cost : ℕ) → IfSome spacing (AtMost ops zero_tag) → AtMost ops zero_tag (charge ops spacing cost)
    charge_not_below None cost h = at_most_itself ops order zero_tag
    charge_not_below (Some s) cost h = at (ops.steps s cost) refl where
      at : (o : Option T) → ops.steps s cost ≡ o → AtMost ops zero_tag (unwrap_or o zero_tag)
      at None e = at_most_itself ops order zero_tag
      at (Some d) e = zero_from ops fraction is_value exact d (steps_not_below ops fraction is_value exact s d cost h e)

    pub charges_not_below : (info : Rates) (spacings : Spacings T) (counting : Counting) (cost : ℕ) → AreSpacings ops info spacings → NotBelow ops (charges_of ops counting (Some spacings) cost)
    charges_not_below info spacings All cost are = let z = at_most_itself ops order zero_tag in record { r = z; l = z; p = z }
    charges_not_below info spacings Others cost are = record { r = charge_not_below spacings.r cost are.r; l = charge_not_below (Some spacings.l) cost are.l; p = charge_not_below (Some spacings.p) cost are.p }

    next_not_below : (previous spacing t tag : T) (k : ℕ) → next_tag ops previous k spacing t ≡ Ok tag → AtMost ops t tag
    next_not_below previous spacing t tag k e =
        let step = bound (in_range (ops.steps spacing k)) _ tag e in
        let sum = bound (in_range (ops.plus previous step.0)) _ tag step.2 in
        let tag_is : ord_max ops.compare sum.0 t ≡ tag = cc (sum.2) in
        subst (AtMost ops t) tag_is (at sum.0 (is_lt (ops.compare t sum.0)) refl)
      where
        below : (sum : T) (r : Ordering) → ops.compare t sum ≡ r → is_lt r ≡ true → AtMost ops t sum
        below sum Less p h = ap is_gt p
        below sum Equal p h = cc
        below sum Greater p h = cc

        at : (sum : T) (c : Bool) → is_lt (ops.compare t sum) ≡ c → AtMost ops t (cond c sum t)
        at sum true e = below sum (ops.compare t sum) refl e
        at sum false e = at_most_itself ops order t

    slack_not_below : (cancelled : Bool) (left tag floor : T) → AtMost ops zero_tag left → AtMost ops floor tag → AtMost ops zero_tag (slack_behind ops cancelled left (above ops tag floor))
    slack_not_below true left tag floor h k = least_above zero_tag left (above ops tag floor) h (above_not_below tag floor k)
    slack_not_below false left tag floor h k = above_not_below tag floor k

    reservation_slack : (previous : Previous T) (k : ℕ) (spacing r : Option T) (t : T) → AtMost ops zero_tag previous.slack.r → next_reservation ops previous.r k spacing t ≡ Ok r →
        AtMost ops zero_tag (option_map_or (λ tag. slack_behind ops previous.cancelled previous.slack.r (above ops tag t)) r previous.slack.r)
    reservation_slack previous k spacing None t h e = h
    reservation_slack previous k None (Some tag) t h e = cc
    reservation_slack previous k (Some spacing) (Some tag) t h e =
        let found = bound (next_tag ops previous.r k spacing t) _ (Some tag) e in
        let same : found.0 ≡ tag = cc (found.2) in
        slack_not_below previous.cancelled previous.slack.r tag t h (subst (AtMost ops t) same (next_not_below previous.r spacing t found.0 k found.1))

    -- the slack of a request that arrives is not below 0
    pub next_slack_not_below : (spacings : Spacings T) (previous : Previous T) (params : Params) (t floor : T) (tags : Tags T) → NotBelow ops previous.slack → next_tags ops spacings previous params t floor ≡ Ok tags → NotBelow ops (slack_of ops previous tags t floor)
    next_slack_not_below spacings previous params t floor tags h e =
        let r = bound (next_reservation ops previous.r params.rho spacings.r t) _ tags e in
        let l = bound (next_tag ops previous.l params.delta spacings.l t) _ tags r.2 in
        let p = bound (next_tag ops previous.p params.delta spacings.p floor) _ tags l.2 in
        let tags_are : record { r = r.0; l = l.0; p = p.0 } ≡ tags = cc (p.2) in
        subst (λ x. NotBelow ops (slack_of ops previous x t floor)) tags_are (record {
          r = reservation_slack previous params.rho spacings.r r.0 t h.r r.1;
          l = slack_not_below previous.cancelled previous.slack.l l.0 t h.l (next_not_below previous.l spacings.l t l.0 params.delta l.1);
          p = slack_not_below previous.cancelled previous.slack.p p.0 floor h.p (next_not_below previous.p spacings.p floor p.0 params.delta p.1);
        })

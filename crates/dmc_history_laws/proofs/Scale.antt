-- Tags on one scale: each is so many of a small part, and so their sums, differences and order are those of whole numbers.
use Rattle.std.proofs.Common.{◌≡◌, ℕ, zero, suc, ◌*◌, ◌<◌, List, [], ◌∷◌, Option, Some, None, refl, sym, ap, ◌∙◌, subst, arith}
use Rattle.std.specs.Prelude.{ℤ, pos, ◌+ℤ◌, ◌-ℤ◌, ◌*ℤ◌, ◌≤ℤ◌, slice_get}
use Rattle.std.specs.Option.{unwrap_or}
use Rattle.std.proofs.lemmas.Int.{ints}
use Rattle.dmc_tag.specs.Order.{AtMost}
use Rattle.dmc_tag.specs.Rules.{above}
use Rattle.dmc_tag.specs.Tag.{Fraction, Tagging, IsExact}
use Rattle.dmc_tag.proofs.Scaled.{scaled_twice, scaled_difference, scaled_sum, scaled_le, unscaled_le, cancelled, zero_of, zero_scaled, at_least_zero, up_scaled, down_scaled}
use Rattle.dmc_tag.proofs.TagOrder.{positive, given, at_most_from, at_most_to}

-- one product, split in two ways
split : (z : ℤ) (a b c d : ℕ) → a * b ≡ c * d → (z *ℤ pos a) *ℤ pos b ≡ (z *ℤ pos c) *ℤ pos d
split z a b c d e = scaled_twice z a b ∙ ap (λ n. z *ℤ pos n) e ∙ sym (scaled_twice z c d)

module _ {T : Type 0} (ops : Tagging T) (fraction : T → Fraction) (is_value : Fraction → Type 0) (exact : IsExact ops fraction is_value) where
  -- the tag's denominator divides the whole
  pub record IsOn (whole : ℕ) (a : T) : Type 0 where
    pub units : ℕ
    pub is : (fraction a).denom * units ≡ whole

  -- the tag, times the whole
  abbrev pub value : (whole : ℕ) (a : T) → IsOn whole a → ℤ
  value whole a on = (fraction a).numer *ℤ pos on.units

  -- ---- a scale for some tags

  abbrev pub scale_of : List T → ℕ
  scale_of [] = 1
  scale_of (x ∷ xs) = (fraction x).denom * scale_of xs

  pub scale_above_0 : (xs : List T) → 0 < scale_of xs
  scale_above_0 [] = omega arith
  scale_above_0 (x ∷ xs) = positive _ _ (exact.denom x) (scale_above_0 xs)

  pub on : (xs : List T) (i : ℕ) (a : T) → slice_get xs i ≡ Some a → IsOn (scale_of xs) a
  on [] i a e = cc
  on (x ∷ xs) zero a e = let same : x ≡ a = cc in record { units = scale_of xs; is = ap (λ z. (fraction z).denom * scale_of xs) (sym same) }
  on (x ∷ xs) (suc i) a e =
      let rest = on xs i a e in
      record { units = (fraction x).denom * rest.units; is = swapped (fraction a).denom (fraction x).denom rest.units ∙ ap (λ n. (fraction x).denom * n) rest.is }
    where
      swapped : (a b c : ℕ) → a * (b * c) ≡ b * (a * c)
      swapped a b c = omega arith

  -- ---- what is so of tags is so of their values

  module _ (whole : ℕ) (some : 0 < whole) where
    pub value_at_most : (a b : T) (x : IsOn whole a) (y : IsOn whole b) → AtMost ops a b → value whole a x ≤ℤ value whole b y
    value_at_most a b x y h =
        let na = (fraction a).numer in
        let nb = (fraction b).numer in
        let da = (fraction a).denom in
        let db = (fraction b).denom in
        let left : (na *ℤ pos db) *ℤ pos (x.units * y.units) ≡ (na *ℤ pos x.units) *ℤ pos whole = split na db (x.units * y.units) x.units whole (turned db x.units y.units ∙ ap (λ n. x.units * n) y.is) in
        let right : (nb *ℤ pos da) *ℤ pos (x.units * y.units) ≡ (nb *ℤ pos y.units) *ℤ pos whole = split nb da (x.units * y.units) y.units whole (turned_too da x.units y.units ∙ ap (λ n. y.units * n) x.is) in
        unscaled_le _ _ whole some (ordered _ _ _ _ left right (scaled_le _ _ (x.units * y.units) (at_most_to ops fraction is_value exact a b h)))
      where
        turned : (d a b : ℕ) → d * (a * b) ≡ a * (d * b)
        turned d a b = omega arith

        turned_too : (d a b : ℕ) → d * (a * b) ≡ b * (d * a)
        turned_too d a b = omega arith

        ordered : (p q r s : ℤ) → p ≡ r → q ≡ s → p ≤ℤ q → r ≤ℤ s
        ordered p q r s e f h = omega (arith, ints)

    pub at_most_value : (a b : T) (x : IsOn whole a) (y : IsOn whole b) → value whole a x ≤ℤ value whole b y → AtMost ops a b
    at_most_value a b x y h =
        let na = (fraction a).numer in
        let nb = (fraction b).numer in
        let da = (fraction a).denom in
        let db = (fraction b).denom in
        let left : (na *ℤ pos x.units) *ℤ pos (da * db) ≡ (na *ℤ pos db) *ℤ pos whole = split na x.units (da * db) db whole (turned x.units da db ∙ ap (λ n. db * n) x.is) in
        let right : (nb *ℤ pos y.units) *ℤ pos (da * db) ≡ (nb *ℤ pos da) *ℤ pos whole = split nb y.units (da * db) da whole (turned_too y.units da db ∙ ap (λ n. da * n) y.is) in
        at_most_from ops fraction is_value exact a b (unscaled_le _ _ whole some (ordered _ _ _ _ left right (scaled_le _ _ (da * db) h)))
      where
        turned : (u a b : ℕ) → u * (a * b) ≡ b * (a * u)
        turned u a b = omega arith

        turned_too : (u a b : ℕ) → u * (a * b) ≡ a * (b * u)
        turned_too u a b = omega arith

        ordered : (p q r s : ℤ) → p ≡ r → q ≡ s → p ≤ℤ q → r ≤ℤ s
        ordered p q r s e f h = omega (arith, ints)

    -- a difference
    pub value_minus : (a b d : T) (x : IsOn whole a) (y : IsOn whole b) (z : IsOn whole d) → ops.minus a b ≡ Some d → value whole d z ≡ value whole a x -ℤ value whole b y
    value_minus a b d x y z e =
        let na = (fraction a).numer in
        let nb = (fraction b).numer in
        let nd = (fraction d).numer in
        let da = (fraction a).denom in
        let db = (fraction b).denom in
        let dd = (fraction d).denom in
        let units = x.units * y.units * z.units in
        let left : (nd *ℤ pos (da * db)) *ℤ pos units ≡ (nd *ℤ pos z.units) *ℤ pos (whole * whole) = split nd (da * db) units z.units (whole * whole) (of_difference da db x.units y.units z.units ∙ rw (x.is, y.is) refl) in
        let first : (na *ℤ pos db) *ℤ pos (dd * units) ≡ (na *ℤ pos x.units) *ℤ pos (whole * whole) = split na db (dd * units) x.units (whole * whole) (of_first db dd x.units y.units z.units ∙ rw (y.is, z.is) refl) in
        let second : (nb *ℤ pos da) *ℤ pos (dd * units) ≡ (nb *ℤ pos y.units) *ℤ pos (whole * whole) = split nb da (dd * units) y.units (whole * whole) (of_second da dd x.units y.units z.units ∙ rw (x.is, z.is) refl) in
        cancelled _ _ (whole * whole) (positive _ _ some some) (
        sym left
        ∙ ap (λ w. w *ℤ pos units) (given ops fraction is_value exact (ops.minus a b) _ d (exact.minus a b) e)
        ∙ scaled_twice (na *ℤ pos db -ℤ nb *ℤ pos da) dd units
        ∙ scaled_difference (na *ℤ pos db) (nb *ℤ pos da) (dd * units)
        ∙ ap (λ w. w -ℤ (nb *ℤ pos da) *ℤ pos (dd * units)) first
        ∙ ap (λ w. (na *ℤ pos x.units) *ℤ pos (whole * whole) -ℤ w) second
        ∙ sym (scaled_difference (na *ℤ pos x.units) (nb *ℤ pos y.units) (whole * whole))
        )
      where
        of_difference : (a b x y z : ℕ) → (a * b) * (x * y * z) ≡ z * ((a * x) * (b * y))
        of_difference a b x y z = omega arith

        of_first : (b d x y z : ℕ) → b * (d * (x * y * z)) ≡ x * ((b * y) * (d * z))
        of_first b d x y z = omega arith

        of_second : (a d x y z : ℕ) → a * (d * (x * y * z)) ≡ y * ((a * x) * (d * z))
        of_second a d x y z = omega arith

    -- a sum
    pub value_plus : (a b d : T) (x : IsOn whole a) (y : IsOn whole b) (z : IsOn whole d) → ops.plus a b ≡ Some d → value whole d z ≡ value whole a x +ℤ value whole b y
    value_plus a b d x y z e =
        let na = (fraction a).numer in
        let nb = (fraction b).numer in
        let nd = (fraction d).numer in
        let da = (fraction a).denom in
        let db = (fraction b).denom in
        let dd = (fraction d).denom in
        let units = x.units * y.units * z.units in
        let left : (nd *ℤ pos (da * db)) *ℤ pos units ≡ (nd *ℤ pos z.units) *ℤ pos (whole * whole) = split nd (da * db) units z.units (whole * whole) (of_sum da db x.units y.units z.units ∙ rw (x.is, y.is) refl) in
        let first : (na *ℤ pos db) *ℤ pos (dd * units) ≡ (na *ℤ pos x.units) *ℤ pos (whole * whole) = split na db (dd * units) x.units (whole * whole) (of_first db dd x.units y.units z.units ∙ rw (y.is, z.is) refl) in
        let second : (nb *ℤ pos da) *ℤ pos (dd * units) ≡ (nb *ℤ pos y.units) *ℤ pos (whole * whole) = split nb da (dd * units) y.units (whole * whole) (of_second da dd x.units y.units z.units ∙ rw (x.is, z.is) refl) in
        cancelled _ _ (whole * whole) (positive _ _ some some) (
        sym left
        ∙ ap (λ w. w *ℤ pos units) (given ops fraction is_value exact (ops.plus a b) _ d (exact.plus a b) e)
        ∙ scaled_twice (na *ℤ pos db +ℤ nb *ℤ pos da) dd units
        ∙ scaled_sum (na *ℤ pos db) (nb *ℤ pos da) (dd * units)
        ∙ ap (λ w. w +ℤ (nb *ℤ pos da) *ℤ pos (dd * units)) first
        ∙ ap (λ w. (na *ℤ pos x.units) *ℤ pos (whole * whole) +ℤ w) second
        ∙ sym (scaled_sum (na *ℤ pos x.units) (nb *ℤ pos y.units) (whole * whole))
        )
      where
        of_sum : (a b x y z : ℕ) → (a * b) * (x * y * z) ≡ z * ((a * x) * (b * y))
        of_sum a b x y z = omega arith

        of_first : (b d x y z : ℕ) → b * (d * (x * y * z)) ≡ x * ((b * y) * (d * z))
        of_first b d x y z = omega arith

        of_second : (a d x y z : ℕ) → a * (d * (x * y * z)) ≡ y * ((a * x) * (d * z))
        of_second a d x y z = omega arith

    -- nothing
    pub value_zero : (x : IsOn whole (ops.of_moment 0)) → value whole (ops.of_moment 0) x ≡ pos 0
    value_zero x =
        let none = fraction (ops.of_moment 0) in
        ap (λ n. n *ℤ pos x.units) (zero_of none.numer none.denom (exact.of_moment 0)) ∙ nothing x.units
      where
        nothing : (d : ℕ) → pos 0 *ℤ pos d ≡ pos 0
        nothing d = omega (arith, ints, up_scaled (pos 0) d, down_scaled (pos 0) d)

  -- ---- tags and differences of them

  abbrev pub NotBelow0 : T → Type 0
  NotBelow0 a = AtMost ops (ops.of_moment 0) a

  -- it is not below 0 exactly if its numerator is not
  pub numer_from : (a : T) → NotBelow0 a → pos 0 ≤ℤ (fraction a).numer
  numer_from a h =
      let none = ops.of_moment 0 in
      let all = none ∷ a ∷ [] in
      let x = on all 0 none refl in
      let y = on all 1 a refl in
      let le = value_at_most (scale_of all) (scale_above_0 all) none a x y h in
      at_least_zero (fraction a).numer y.units (units_above_0 _ _ _ (scale_above_0 all) y.is) (subst (λ z. z ≤ℤ value (scale_of all) a y) (value_zero (scale_of all) (scale_above_0 all) x) le)
    where
      units_above_0 : (d u w : ℕ) → 0 < w → d * u ≡ w → 0 < u
      units_above_0 d zero w h e = let none : d * 0 ≡ 0 = omega arith in absurd (omega (arith, h, e, none))
      units_above_0 d (suc u) w h e = omega arith

  pub numer_to : (a : T) → pos 0 ≤ℤ (fraction a).numer → NotBelow0 a
  numer_to a h =
      let none = ops.of_moment 0 in
      let all = none ∷ a ∷ [] in
      let x = on all 0 none refl in
      let y = on all 1 a refl in
      at_most_value (scale_of all) (scale_above_0 all) none a x y (subst (λ z. z ≤ℤ value (scale_of all) a y) (sym (value_zero (scale_of all) (scale_above_0 all) x)) (zero_scaled (fraction a).numer y.units h))

  -- what is taken off does not raise a tag, and what is left of it is not below 0
  pub less_under : (a b d : T) → ops.minus a b ≡ Some d → NotBelow0 b → AtMost ops d a
  less_under a b d e h =
      let none = ops.of_moment 0 in
      let all = none ∷ a ∷ b ∷ d ∷ [] in
      let w = scale_of all in
      let some = scale_above_0 all in
      let o = on all 0 none refl in
      let x = on all 1 a refl in
      let y = on all 2 b refl in
      let z = on all 3 d refl in
      at_most_value w some d a z x (under _ _ _ _ (value_minus w some a b d x y z e) (value_zero w some o) (value_at_most w some none b o y h))
    where
      under : (d a b o : ℤ) → d ≡ a -ℤ b → o ≡ pos 0 → o ≤ℤ b → d ≤ℤ a
      under d a b o e n h = omega (arith, ints)

  pub left_not_below : (a b d : T) → ops.minus a b ≡ Some d → AtMost ops b a → NotBelow0 d
  left_not_below a b d e h =
      let none = ops.of_moment 0 in
      let all = none ∷ a ∷ b ∷ d ∷ [] in
      let w = scale_of all in
      let some = scale_above_0 all in
      let o = on all 0 none refl in
      let x = on all 1 a refl in
      let y = on all 2 b refl in
      let z = on all 3 d refl in
      at_most_value w some none d o z (left _ _ _ _ (value_minus w some a b d x y z e) (value_zero w some o) (value_at_most w some b a y x h))
    where
      left : (d a b o : ℤ) → d ≡ a -ℤ b → o ≡ pos 0 → b ≤ℤ a → o ≤ℤ d
      left d a b o e n h = omega (arith, ints)

  itself : (a : T) → AtMost ops a a
  itself a = at_most_from ops fraction is_value exact a a (omega (arith, ints))

  pub above_not_below : (tag floor : T) → AtMost ops floor tag → NotBelow0 (above ops tag floor)
  above_not_below tag floor h = by (ops.minus tag floor) refl where
    by : (o : Option T) → ops.minus tag floor ≡ o → NotBelow0 (unwrap_or o (ops.of_moment 0))
    by None e = itself (ops.of_moment 0)
    by (Some d) e = left_not_below tag floor d e h

  -- a tag that falls by no more than the one before it fell does not fall past where that one is
  pub falls_behind : (was is tag amount fallen : T) → AtMost ops was tag → AtMost ops is was → AtMost ops amount (above ops was is) → ops.minus tag amount ≡ Some fallen → AtMost ops is fallen
  falls_behind was is tag amount fallen follows fell most e = by (ops.minus was is) refl most where
    none : T
    none = ops.of_moment 0

    by : (o : Option T) → ops.minus was is ≡ o → AtMost ops amount (unwrap_or o none) → AtMost ops is fallen
    by (Some d) q h =
        let all = was ∷ is ∷ tag ∷ amount ∷ fallen ∷ d ∷ [] in
        let w = scale_of all in
        let some = scale_above_0 all in
        let x = on all 0 was refl in
        let y = on all 1 is refl in
        let t = on all 2 tag refl in
        let m = on all 3 amount refl in
        let f = on all 4 fallen refl in
        let g = on all 5 d refl in
        at_most_value w some is fallen y f (behind _ _ _ _ _ _ (value_at_most w some was tag x t follows) (value_minus w some was is d x y g q) (value_at_most w some amount d m g h) (value_minus w some tag amount fallen t m f e))
      where
        behind : (was is tag amount fallen d : ℤ) → was ≤ℤ tag → d ≡ was -ℤ is → amount ≤ℤ d → fallen ≡ tag -ℤ amount → is ≤ℤ fallen
        behind was is tag amount fallen d p q r s = omega (arith, ints)
    by None q h =
        let all = was ∷ is ∷ tag ∷ amount ∷ fallen ∷ none ∷ [] in
        let w = scale_of all in
        let some = scale_above_0 all in
        let x = on all 0 was refl in
        let y = on all 1 is refl in
        let t = on all 2 tag refl in
        let m = on all 3 amount refl in
        let f = on all 4 fallen refl in
        let o = on all 5 none refl in
        at_most_value w some is fallen y f (behind _ _ _ _ _ _ (value_at_most w some was tag x t follows) (value_at_most w some is was y x fell) (value_zero w some o) (value_at_most w some amount none m o h) (value_minus w some tag amount fallen t m f e))
      where
        behind : (was is tag amount fallen none : ℤ) → was ≤ℤ tag → is ≤ℤ was → none ≡ pos 0 → amount ≤ℤ none → fallen ≡ tag -ℤ amount → is ≤ℤ fallen
        behind was is tag amount fallen none p q o r s = omega (arith, ints)

-- The operations of ratio tags are exact.
use Rattle.std.specs.Prelude.{◌≡◌, ℕ, zero, suc, ◌+◌, ◌*◌, ◌/◌, ◌%◌, ◌<◌, ◌≤◌, ◌≤ℤ◌, ◌<ℤ◌, Bool, true, false, ◌&&◌, ℤ, pos, negsuc, ◌*ℤ◌, Some, None, cond, nat_le, unsigned_abs, ◌↔◌, min}
use Rattle.std.specs.declared.cmp.Ordering.TheVariants.{Equal}
use Rattle.std.proofs.Common.{refl, sym, ap, ◌∙◌, subst, arith}
use Rattle.std.proofs.lemmas.Bool.{leb-true, leb-false}
use Rattle.std.proofs.lemmas.Cmp.{int_ranked}
use Rattle.std.proofs.lemmas.Int.{ints, by_lt_z, unsigned_abs-mul}
use Rattle.std.proofs.lemmas.Nat.Gcd.{same_from_IsGcd}
use Rattle.std.proofs.lemmas.Nat.{div-add-mod'}
use Rattle.std.proofs.Math.Nat.{div-mul_cancel, mul-le-mul_right, mod-lt, eq-one_of_dvd-one}
use Rattle.dmc_types.specs.Limits.{max_moment}
use borrow.Author.Differences.{up, down}
use Rattle.dmc_tag.specs.Tag.{Fraction, Gives, IsExact, IsSame, ratio, sum_of, difference_of, multiple_of}
use Rattle.dmc_ratio.specs.Gcd.{gcd}
use Rattle.dmc_ratio.specs.GcdLaws.{gcd_is, same_denom}
use Rattle.dmc_ratio.specs.Lowest.{over, over_same, unsigned_abs-over, lowest_pos, lowest_apart}
use Rattle.dmc_ratio.specs.Products.{up_neg, down_neg}
use Rattle.dmc_tag.proofs.Scaled.{up_scaled, down_scaled, cancelled, scaled_twice}
use Rattle.dmc_ratio.specs.Ratio.{Ratio, same_ratio, lowest_terms, reduced, ceil_of, ratio_ops, ratio_fraction, from_fraction, IsRatioValue, max_numer, max_denom}

-- ---- a sum, a difference, a multiple, a spacing
gives_at : (n : ℤ) (d : ℕ) (small big : Bool) → nat_le (unsigned_abs (lowest_terms n d).numer) max_numer ≡ small → nat_le (lowest_terms n d).denom max_denom ≡ big → Gives ratio_fraction IsRatioValue (cond (small && big) (Some (lowest_terms n d)) None) (record { numer = n; denom = suc d })
gives_at n d true true p q =
    let g = gcd (unsigned_abs n) (suc d) in
    let is = gcd_is (unsigned_abs n) (suc d) in
    let numer : unsigned_abs n / g ≤ max_numer = subst (λ (x : ℕ). x ≤ max_numer) (unsigned_abs-over n g) (leb-true _ max_numer p) in
    let denom : suc d / g ≤ max_denom = leb-true _ max_denom q in (
      record {
        some = omega arith;
        numer_fits = λ k h. subst (λ (x : ℕ). unsigned_abs n / x ≤ max_numer) (same_from_IsGcd _ _ g k is h) numer;
        denom_fits = λ k h. subst (λ (x : ℕ). suc d / x ≤ max_denom) (same_from_IsGcd _ _ g k is h) denom;
      },
      over_same n (suc d) g (div-mul_cancel g is.0) (div-mul_cancel g is.1),
    )
gives_at n d false big p q = λ v.
    let g = gcd (unsigned_abs n) (suc d) in
    let above : max_numer < unsigned_abs (over n g) = leb-false _ max_numer p in
    let fits : unsigned_abs n / g ≤ max_numer = v.numer_fits g (gcd_is (unsigned_abs n) (suc d)) in
    omega (arith, unsigned_abs-over n g)
gives_at n d true false p q = λ v.
    let g = gcd (unsigned_abs n) (suc d) in
    let above : max_denom < suc d / g = leb-false _ max_denom q in
    let fits : suc d / g ≤ max_denom = v.denom_fits g (gcd_is (unsigned_abs n) (suc d)) in
    omega arith

pub reduced_gives : (n : ℤ) (d : ℕ) → Gives ratio_fraction IsRatioValue (reduced n d) (record { numer = n; denom = d })
reduced_gives n zero = λ v. let h = v.some in omega arith
reduced_gives n (suc d) = gives_at n d _ _ refl refl

gives : (f : Fraction) → Gives ratio_fraction IsRatioValue (from_fraction f) f
gives f = reduced_gives f.numer f.denom

-- ---- ratios of one value are one ratio
pub same_value : (a b : Ratio) → a.numer *ℤ pos b.denom ≡ b.numer *ℤ pos a.denom → a ≡ b
same_value a b e =
    let sizes : unsigned_abs a.numer * b.denom ≡ unsigned_abs b.numer * a.denom = sym (unsigned_abs-mul a.numer (pos b.denom)) ∙ ap unsigned_abs e ∙ unsigned_abs-mul b.numer (pos a.denom) in
    let a_some = lowest_pos a.numer a.denom a.lowest in
    let b_some = lowest_pos b.numer b.denom b.lowest in
    let denom : a.denom ≡ b.denom = same_denom (unsigned_abs a.numer) a.denom (unsigned_abs b.numer) b.denom (lowest_apart a.numer a.denom a.lowest) (lowest_apart b.numer b.denom b.lowest) a_some b_some sizes in
    same_ratio a b (cancelled a.numer b.numer b.denom b_some (e ∙ ap (λ d. b.numer *ℤ pos d) denom)) denom

-- ---- the least whole number not below
ceil_bounds : (n : ℤ) (d : ℕ) → 0 < d → (up n + down (ceil_of n d) * d ≤ up (ceil_of n d) * d + down n) × (up (ceil_of n d) * d + down n < up n + down (ceil_of n d) * d + d)
ceil_bounds (pos n) d some =
    let whole = div-add-mod' n d in
    let below : n % d < d = mod-lt n some in
    elim_rest (n % d) below whole
  where
    elim_rest : (r : ℕ) → r < d → n / d * d + r ≡ n → (n + 0 * d ≤ (n / d + min 1 r) * d + 0) × ((n / d + min 1 r) * d + 0 < n + 0 * d + d)
    elim_rest zero h e = (omega arith, omega arith)
    elim_rest (suc r) h e = (let m : min 1 (suc r) ≡ 1 = omega arith in rw m (omega arith), let m : min 1 (suc r) ≡ 1 = omega arith in rw m (omega arith))
ceil_bounds (negsuc n) d some =
    let whole = div-add-mod' (suc n) d in
    let below : suc n % d < d = mod-lt (suc n) some in
    rw (up_neg (suc n / d), down_neg (suc n / d)) (omega arith, omega arith)

least_from : (n c z : ℤ) (d : ℕ) → 0 < d → up n + down c * d ≤ up c * d + down n → up c * d + down n < up n + down c * d + d → (c ≤ℤ z) ↔ (n ≤ℤ (z *ℤ pos d))
least_from n c z d some p q = (λ h. forth h, λ h. back h)
  where
    forth : c ≤ℤ z → n ≤ℤ (z *ℤ pos d)
    forth h =
        let le : up c + down z ≤ up z + down c = omega (arith, ints) in
        let scaled : (up c + down z) * d ≤ (up z + down c) * d = mul-le-mul_right d le in
        omega (arith, ints, up_scaled z d, down_scaled z d)

    back : n ≤ℤ (z *ℤ pos d) → c ≤ℤ z
    back h = by_lt_z z c (λ lt. absurd (above lt)) (λ le. le)
      where
        above : z <ℤ c → ⊥
        above lt =
            let le : up n + down (z *ℤ pos d) ≤ up (z *ℤ pos d) + down n = omega (arith, ints) in
            let more : suc (up z + down c) ≤ up c + down z = omega (arith, ints) in
            let scaled : suc (up z + down c) * d ≤ (up c + down z) * d = mul-le-mul_right d more in
            omega (arith, up_scaled z d, down_scaled z d)

-- ---- whether a fraction is a value depends on its value alone

-- the lowest terms of one value are the same
lowest_same : (n m : ℤ) (d e : ℕ) → n *ℤ pos (suc e) ≡ m *ℤ pos (suc d) → lowest_terms n d ≡ lowest_terms m e
lowest_same n m d e same =
    let a = lowest_terms n d in
    let b = lowest_terms m e in
    let g = gcd_is (unsigned_abs n) (suc d) in
    let h = gcd_is (unsigned_abs m) (suc e) in
    let left : a.numer *ℤ pos (suc d) ≡ n *ℤ pos a.denom = over_same n (suc d) (gcd (unsigned_abs n) (suc d)) (div-mul_cancel _ g.0) (div-mul_cancel _ g.1) in
    let right : b.numer *ℤ pos (suc e) ≡ m *ℤ pos b.denom = over_same m (suc e) (gcd (unsigned_abs m) (suc e)) (div-mul_cancel _ h.0) (div-mul_cancel _ h.1) in
    same_value a b (crossed a.numer b.numer n m a.denom b.denom (suc d) (suc e) (omega arith) left right same)
  where
    crossed : (an bn n m : ℤ) (ad bd d e : ℕ) → 0 < d * e → an *ℤ pos d ≡ n *ℤ pos ad → bn *ℤ pos e ≡ m *ℤ pos bd → n *ℤ pos e ≡ m *ℤ pos d → an *ℤ pos bd ≡ bn *ℤ pos ad
    crossed an bn n m ad bd d e some p q r =
        let there : (an *ℤ pos bd) *ℤ pos (d * e) ≡ (an *ℤ pos d) *ℤ pos (bd * e) = scaled_twice an bd (d * e) ∙ ap (λ k. an *ℤ pos k) (omega arith) ∙ sym (scaled_twice an d (bd * e)) in
        let over_n : (n *ℤ pos ad) *ℤ pos (bd * e) ≡ (n *ℤ pos e) *ℤ pos (ad * bd) = scaled_twice n ad (bd * e) ∙ ap (λ k. n *ℤ pos k) (omega arith) ∙ sym (scaled_twice n e (ad * bd)) in
        let over_m : (m *ℤ pos d) *ℤ pos (ad * bd) ≡ (m *ℤ pos bd) *ℤ pos (ad * d) = scaled_twice m d (ad * bd) ∙ ap (λ k. m *ℤ pos k) (omega arith) ∙ sym (scaled_twice m bd (ad * d)) in
        let back : (bn *ℤ pos e) *ℤ pos (ad * d) ≡ (bn *ℤ pos ad) *ℤ pos (d * e) = scaled_twice bn e (ad * d) ∙ ap (λ k. bn *ℤ pos k) (omega arith) ∙ sym (scaled_twice bn ad (d * e)) in
        cancelled (an *ℤ pos bd) (bn *ℤ pos ad) (d * e) some (there ∙ ap (λ z. z *ℤ pos (bd * e)) p ∙ over_n ∙ ap (λ z. z *ℤ pos (ad * bd)) r ∙ over_m ∙ ap (λ z. z *ℤ pos (ad * d)) (sym q) ∙ back)

-- the sizes in lowest terms fit
record Fits (r : Ratio) : Type 0 where
  numer : unsigned_abs r.numer ≤ max_numer
  denom : r.denom ≤ max_denom

fits_from : (n : ℤ) (d : ℕ) → IsRatioValue (record { numer = n; denom = suc d }) → Fits (lowest_terms n d)
fits_from n d v =
    let g = gcd (unsigned_abs n) (suc d) in
    let is = gcd_is (unsigned_abs n) (suc d) in
    record { numer = subst (λ (x : ℕ). x ≤ max_numer) (sym (unsigned_abs-over n g)) (v.numer_fits g is); denom = v.denom_fits g is }

fits_to : (n : ℤ) (d : ℕ) → Fits (lowest_terms n d) → IsRatioValue (record { numer = n; denom = suc d })
fits_to n d h =
    let g = gcd (unsigned_abs n) (suc d) in
    let is = gcd_is (unsigned_abs n) (suc d) in
    let numer : unsigned_abs n / g ≤ max_numer = subst (λ (x : ℕ). x ≤ max_numer) (unsigned_abs-over n g) h.numer in
    record {
      some = omega arith;
      numer_fits = λ k i. subst (λ (x : ℕ). unsigned_abs n / x ≤ max_numer) (same_from_IsGcd _ _ g k is i) numer;
      denom_fits = λ k i. subst (λ (x : ℕ). suc d / x ≤ max_denom) (same_from_IsGcd _ _ g k is i) h.denom;
    }

ratio_same_value : (f g : Fraction) → 0 < f.denom → 0 < g.denom → IsSame f g → IsRatioValue f → IsRatioValue g
ratio_same_value f g f_some g_some same v = at f.numer f.denom g.numer g.denom f_some g_some same v where
  at : (n : ℤ) (d : ℕ) (m : ℤ) (e : ℕ) → 0 < d → 0 < e → n *ℤ pos e ≡ m *ℤ pos d → IsRatioValue (record { numer = n; denom = d }) → IsRatioValue (record { numer = m; denom = e })
  at n zero m e p q r w = absurd (omega arith)
  at n (suc d) m zero p q r w = absurd (omega arith)
  at n (suc d) m (suc e) p q r w = fits_to m e (subst Fits (lowest_same n m d e r) (fits_from n d w))

ratio_moments : (n : ℕ) → n ≤ max_moment → IsRatioValue (record { numer = pos n; denom = 1 })
ratio_moments n h = record {
  some = omega arith;
  numer_fits = λ g is. let one : g ≡ 1 = eq-one_of_dvd-one is.1 in subst (λ (x : ℕ). n / x ≤ max_numer) (sym one) (omega (arith, h));
  denom_fits = λ g is. let one : g ≡ 1 = eq-one_of_dvd-one is.1 in subst (λ (x : ℕ). 1 / x ≤ max_denom) (sym one) (omega arith);
}

pub ratio_exact : IsExact ratio_ops ratio_fraction IsRatioValue
ratio_exact = record {
  denom = λ a. lowest_pos a.numer a.denom a.lowest;
  order = λ a b. refl;
  same = λ a b e. same_value a b (int_ranked _ _ Equal (sym e));
  same_value = ratio_same_value;
  moments = ratio_moments;
  of_moment = λ n. refl;
  spacing = λ hz rate. gives (ratio hz rate);
  steps = λ a k. gives (multiple_of k (ratio_fraction a));
  plus = λ a b. gives (sum_of (ratio_fraction a) (ratio_fraction b));
  minus = λ a b. gives (difference_of (ratio_fraction a) (ratio_fraction b));
  ceil = λ a z. let some = lowest_pos a.numer a.denom a.lowest in let bounds = ceil_bounds a.numer a.denom some in least_from a.numer (ceil_of a.numer a.denom) z a.denom some bounds.0 bounds.1;
}

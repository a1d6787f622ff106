-- The operations of tick tags are exact.
use Rattle.std.specs.Prelude.{◌≡◌, ℕ, suc, ◌+◌, ◌*◌, ◌/◌, ◌%◌, ◌<◌, ◌≤◌, ◌≤ℤ◌, Bool, true, false, not, ◌||◌, ℤ, pos, ◌+ℤ◌, ◌-ℤ◌, ◌*ℤ◌, Some, None, cond, nat_le, nat_eq, unsigned_abs}
use Rattle.std.specs.declared.cmp.Ordering.TheVariants.{Equal}
use Rattle.std.specs.Ordering.{int_cmp}
use Rattle.std.proofs.Common.{refl, sym, ap, ◌∙◌, subst, arith}
use Rattle.std.proofs.lemmas.Bool.{leb-true, leb-false, eqb-true, eqb-false}
use Rattle.std.proofs.lemmas.Cmp.{int_ranked}
use Rattle.std.proofs.lemmas.Int.{ints, unsigned_abs-mul}
use Rattle.std.proofs.lemmas.Nat.{mod-mul-add, div-add-mod'}
use Rattle.std.proofs.Math.Nat.{mul-le-mul_left, eq_of_mul-eq-mul_left}
use Rattle.dmc_tag.specs.Tag.{Fraction, Gives, IsExact, IsSame, IsWhole, ratio, integer}
use Rattle.dmc_tag.specs.Tag as fraction_of
use Rattle.dmc_tick.specs.Tick.{tick, tick_ops, tick_fraction, IsTickValue, greatest}
use Rattle.dmc_tag.proofs.Scaled.{times_one}

-- a fraction that is the whole number z has the absolute value |z|*d over d
absolute : (z : ℤ) (f : Fraction) → f.numer ≡ z *ℤ pos f.denom → unsigned_abs f.numer ≡ unsigned_abs z * f.denom
absolute z f e = ap unsigned_abs e ∙ unsigned_abs-mul z (pos f.denom)

multiple_rests : (m d : ℕ) → 0 < d → (m * d) % d ≡ 0
multiple_rests m d some = let e : m * d ≡ m * d + 0 = omega arith in ap (λ x. x % d) e ∙ mod-mul-add m d 0 some

gives_at : (z : ℤ) (f : Fraction) → 0 < f.denom → f.numer ≡ z *ℤ pos f.denom → (fits : Bool) → nat_le (unsigned_abs z) greatest ≡ fits → Gives tick_fraction IsTickValue (cond fits (Some z) None) f
gives_at z f some e true fits =
    let size = absolute z f e in
    let bound : unsigned_abs z ≤ greatest = leb-true (unsigned_abs z) greatest fits in (
      record {
        some = some;
        divides = ap (λ n. n % f.denom) size ∙ multiple_rests (unsigned_abs z) f.denom some;
        bound = let scaled : f.denom * unsigned_abs z ≤ f.denom * greatest = mul-le-mul_left f.denom bound in omega (arith, size, scaled);
      },
      sym e ∙ sym (times_one f.numer),
    )
gives_at z f some e false fits = λ v.
    let size = absolute z f e in
    let above : suc greatest ≤ unsigned_abs z = leb-false (unsigned_abs z) greatest fits in
    let scaled : f.denom * suc greatest ≤ f.denom * unsigned_abs z = mul-le-mul_left f.denom above in
    omega (arith, size, scaled, v.bound)

-- the whole number that a fraction is
tick_gives : (z : ℤ) (f : Fraction) → 0 < f.denom → f.numer ≡ z *ℤ pos f.denom → Gives tick_fraction IsTickValue (tick z) f
tick_gives z f some e = gives_at z f some e (nat_le (unsigned_abs z) greatest) refl

divided : (hz rate : ℕ) (zero_rate divides : Bool) → nat_eq rate 0 ≡ zero_rate → nat_eq (hz % rate) 0 ≡ divides → Gives tick_fraction IsTickValue (cond (zero_rate || not divides) None (tick (pos (hz / rate)))) (ratio hz rate)
divided hz rate true divides z d = λ v. let e = eqb-true rate 0 z in omega (arith, v.some)
divided hz rate false false z d = λ v. eqb-false (hz % rate) 0 d v.divides
divided hz rate false true z d =
    let ne = eqb-false rate 0 z in
    let some : 0 < rate = omega arith in
    let rest = eqb-true (hz % rate) 0 d in
    let e : hz ≡ hz / rate * rate = omega (arith, div-add-mod' hz rate) in
    tick_gives (pos (hz / rate)) (ratio hz rate) some (ap pos e)

-- whether a fraction is a whole number of that size depends on its value alone
same_size : (a b d e q : ℕ) → 0 < d → a * e ≡ b * d → a ≡ q * d → b ≡ q * e
same_size a b d e q some same whole =
    let turned : d * b ≡ b * d = omega arith in
    let more : q * d * e ≡ d * (q * e) = omega arith in
    eq_of_mul-eq-mul_left d some b (q * e) (turned ∙ sym same ∙ ap (λ n. n * e) whole ∙ more)

value_of : (f : Fraction) (q : ℕ) → 0 < f.denom → q ≤ greatest → unsigned_abs f.numer ≡ q * f.denom → IsTickValue f
value_of f q some fits e = record {
  some = some;
  divides = ap (λ n. n % f.denom) e ∙ multiple_rests q f.denom some;
  bound = let scaled : f.denom * q ≤ f.denom * greatest = mul-le-mul_left f.denom fits in omega (arith, e, scaled);
}

tick_same_value : (f g : Fraction) → 0 < f.denom → 0 < g.denom → IsSame f g → IsTickValue f → IsTickValue g
tick_same_value f g f_some g_some same v =
    let a = unsigned_abs f.numer in
    let q = a / f.denom in
    let sizes : a * g.denom ≡ unsigned_abs g.numer * f.denom = sym (unsigned_abs-mul f.numer (pos g.denom)) ∙ ap unsigned_abs same ∙ unsigned_abs-mul g.numer (pos f.denom) in
    let whole : a ≡ q * f.denom = omega (arith, div-add-mod' a f.denom, v.divides) in
    value_of g q g_some (quotient_fits (nat_le q greatest) refl whole) (same_size a (unsigned_abs g.numer) f.denom g.denom q f_some sizes whole)
  where
    quotient_fits : {q : ℕ} (b : Bool) → nat_le q greatest ≡ b → unsigned_abs f.numer ≡ q * f.denom → q ≤ greatest
    quotient_fits {q} true e whole = leb-true q greatest e
    quotient_fits {q} false e whole =
        let above : suc greatest ≤ q = leb-false q greatest e in
        let scaled : f.denom * suc greatest ≤ f.denom * q = mul-le-mul_left f.denom above in
        absurd (omega (arith, whole, scaled, v.bound, f_some))

pub tick_exact : IsExact tick_ops tick_fraction IsTickValue
tick_exact = record {
  denom = λ a. omega arith;
  order = λ a b. sym (ap (λ x. int_cmp x (b *ℤ pos 1)) (times_one a) ∙ ap (int_cmp a) (times_one b));
  same = λ a b e. int_ranked a b Equal (sym e);
  same_value = tick_same_value;
  moments = λ n h. value_of (fraction_of.whole n) n (omega arith) (omega (arith, h)) (omega arith);
  of_moment = λ n. refl;
  spacing = λ hz rate. divided hz rate (nat_eq rate 0) (nat_eq (hz % rate) 0) refl refl;
  steps = λ a k. tick_gives (pos k *ℤ a) _ (omega arith) (sym (times_one (pos k *ℤ a)));
  plus = λ a b. tick_gives (a +ℤ b) _ (omega arith) (ap (λ x. x +ℤ b *ℤ pos 1) (times_one a) ∙ ap (λ y. a +ℤ y) (times_one b) ∙ sym (times_one (a +ℤ b)));
  minus = λ a b. tick_gives (a -ℤ b) _ (omega arith) (ap (λ x. x -ℤ b *ℤ pos 1) (times_one a) ∙ ap (λ y. a -ℤ y) (times_one b) ∙ sym (times_one (a -ℤ b)));
  ceil = λ a z. (λ h. subst (λ w. a ≤ℤ w) (sym (times_one z)) h, λ h. subst (λ w. a ≤ℤ w) (times_one z) h);
}

-- ---- every tag is a whole number

-- a number of that size is a value
value_within : (z : ℤ) → unsigned_abs z ≤ greatest → IsTickValue (integer z)
value_within z h = value_of (integer z) (unsigned_abs z) (omega arith) h (omega arith)

pub tick_whole : IsWhole tick_fraction IsTickValue
tick_whole = record {
  denom = λ a. refl;
  between = λ a b c h k v w. value_within b (within a b c h k v.bound w.bound);
} where
  within : (a b c : ℤ) → a ≤ℤ b → b ≤ℤ c → unsigned_abs a ≤ 1 * greatest → unsigned_abs c ≤ 1 * greatest → unsigned_abs b ≤ greatest
  within a b c h k v w = omega (arith, ints)

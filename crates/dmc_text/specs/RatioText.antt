-- The text of a ratio tag: a fraction in lowest terms.
use Rattle.std.proofs.Common.{◌≡◌, ℕ, zero, suc, ◌*◌, ◌/◌, Bool, true, false, cond, eqb, ℤ, pos, negsuc, Option, Some, None, refl, sym, ap, ◌∙◌, arith}
use Rattle.std.specs.Prelude.{◌==◌, if◌then◌else◌, option_and_then, unsigned_abs, T}
use Rattle.std.proofs.Math.Nat.{div-mul_cancel}
use Rattle.std.proofs.lemmas.Bool.{eqb-true, eq-eqb}
use Rattle.dmc_ratio.specs.Gcd.{gcd}
use Rattle.dmc_ratio.specs.GcdLaws.{gcd_is}
use Rattle.dmc_ratio.specs.Lowest.{is_lowest, over, lowest_apart}
use Rattle.dmc_ratio.specs.Ratio.{Ratio, same_ratio, lowest_terms, reduced, is_small}
use Rattle.std.proofs.lemmas.Option.{same_Some}

-- the ratio of n/d, if these are in lowest terms already
abbrev pub ratio_if_lowest : ℤ → ℕ → Option Ratio
ratio_if_lowest n d = option_and_then (λ a. if a.denom == d then Some a else None) (reduced n d)

-- ---- what is stored is n/d

over_one : (n : ℤ) → over n 1 ≡ n
over_one (pos n) = let e : n / 1 ≡ n = omega arith in ap pos e
over_one (negsuc n) = let e : suc n / 1 ≡ suc n = omega arith in ap (λ k. over_sign k) e
  where
    over_sign : ℕ → ℤ
    over_sign zero = pos 0
    over_sign (suc k) = negsuc k

one_factor : (d g : ℕ) → suc d * g ≡ suc d → g ≡ 1
one_factor d zero e = absurd (omega (arith, e))
one_factor d (suc zero) e = refl
one_factor d (suc (suc k)) e = absurd (omega (arith, e))

same_denominator : (n : ℤ) (d : ℕ) → suc d / gcd (unsigned_abs n) (suc d) ≡ suc d → gcd (unsigned_abs n) (suc d) ≡ 1
same_denominator n d e =
    let g : ℕ = gcd (unsigned_abs n) (suc d) in
    let whole : suc d / g * g ≡ suc d = div-mul_cancel g (gcd_is (unsigned_abs n) (suc d)).1 in
    one_factor d g (ap (λ k. k * g) (sym e) ∙ whole)

ratio_if_lowest_by : (n : ℤ) (d : ℕ) (a : Ratio) (small whole : Bool) → is_small (lowest_terms n d) ≡ small → eqb ((lowest_terms n d).denom) (suc d) ≡ whole
    → ratio_if_lowest n (suc d) ≡ Some a → (a.numer ≡ n) × (a.denom ≡ suc d)
ratio_if_lowest_by n d a false whole s w e = let none : None ≡ Some a = ap (λ b. option_and_then (λ x. cond (eqb x.denom (suc d)) (Some x) None) (cond b (Some (lowest_terms n d)) None)) (sym s) ∙ e in absurd (cc)
ratio_if_lowest_by n d a true false s w e =
    let none : None ≡ Some a =
    ap (λ b. cond b (Some (lowest_terms n d)) None) (sym w)
    ∙ ap (λ b. option_and_then (λ x. cond (eqb x.denom (suc d)) (Some x) None) (cond b (Some (lowest_terms n d)) None)) (sym s) ∙ e in
    absurd (cc)
ratio_if_lowest_by n d a true true s w e =
    let some : Some (lowest_terms n d) ≡ Some a =
    ap (λ b. cond b (Some (lowest_terms n d)) None) (sym w)
    ∙ ap (λ b. option_and_then (λ x. cond (eqb x.denom (suc d)) (Some x) None) (cond b (Some (lowest_terms n d)) None)) (sym s) ∙ e in
    let same : lowest_terms n d ≡ a = same_Some (lowest_terms n d) a some in
    let whole : suc d / gcd (unsigned_abs n) (suc d) ≡ suc d = eqb-true _ _ w in
    let one = same_denominator n d whole in
    (ap (λ r. r.numer) (sym same) ∙ ap (over n) one ∙ over_one n, ap (λ r. r.denom) (sym same) ∙ whole)

pub ratio_if_lowest_has : (n : ℤ) (d : ℕ) (a : Ratio) → ratio_if_lowest n d ≡ Some a → (a.numer ≡ n) × (a.denom ≡ d)
ratio_if_lowest_has n zero a e = absurd (cc)
ratio_if_lowest_has n (suc d) a e = ratio_if_lowest_by n d a (is_small (lowest_terms n d)) (eqb ((lowest_terms n d).denom) (suc d)) refl refl e

-- ---- a ratio stays

pub lowest_again : (n : ℤ) (d : ℕ) (h : T (is_lowest n d)) → is_small (record { numer = n; denom = d; lowest = h }) ≡ true → ratio_if_lowest n d ≡ Some (record { numer = n; denom = d; lowest = h })
lowest_again n zero h small = elim h [ ]
lowest_again n (suc d) h small =
    let one : gcd (unsigned_abs n) (suc d) ≡ 1 = lowest_apart n (suc d) h in
    let r : Ratio = record { numer = n; denom = suc d; lowest = h } in
    let whole : suc d / 1 ≡ suc d = omega arith in
    let same : lowest_terms n d ≡ r = same_ratio (lowest_terms n d) r (ap (over n) one ∙ over_one n) (ap (λ g. suc d / g) one ∙ whole) in
    ap (λ x. option_and_then (λ y. cond (eqb y.denom (suc d)) (Some y) None) (cond (is_small x) (Some x) None)) same
    ∙ ap (λ b. option_and_then (λ y. cond (eqb y.denom (suc d)) (Some y) None) (cond b (Some r) None)) small
    ∙ ap (λ b. cond b (Some r) None) (eq-eqb (suc d) (suc d) refl)

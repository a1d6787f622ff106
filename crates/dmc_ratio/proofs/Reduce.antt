-- A fraction in lowest terms, by any greatest common divisor of its two numbers.
use Rattle.std.specs.Prelude.{◌≡◌, ℕ, zero, suc, ◌/◌, ◌<◌, ◌≤◌, ◌⊎◌, cond, ◌&&◌, T, ℤ, pos, negsuc, Some, None, nat_le, unsigned_abs, int_lt, FitsSigned}
use Rattle.std.specs.Int.{IsGcd, w128}
use Rattle.std.proofs.Common.{to_z, of_z, refl, sym, ap, ◌∙◌, subst, inl, inr, arith}
use Rattle.std.proofs.lemmas.Int.{to_z-of_z}
use Rattle.std.proofs.lemmas.Bool.{and_right, le-leb, lt-leb, le-ltb}
use Rattle.std.proofs.lemmas.Nat.Gcd.{same_from_IsGcd}
use Rattle.std.proofs.Math.Nat.{pos_of_dvd_of_pos}
use Rattle.dmc_ratio.specs.Gcd.{gcd}
use Rattle.dmc_ratio.specs.GcdLaws.{gcd_is}
use Rattle.dmc_ratio.specs.Lowest.{is_lowest, with_sign, over, quotients_lowest, unsigned_abs-over}
use Rattle.dmc_ratio.specs.Ratio.{Ratio, same_ratio, lowest_terms, is_small, reduced, max_numer, max_denom}

pub divisor_pos : (a b g : ℕ) → IsGcd a b g → 0 < b → 0 < g
divisor_pos a b g is some = pos_of_dvd_of_pos is.1 some

same_divisor : (n : ℤ) (d g : ℕ) → IsGcd (unsigned_abs n) d g → gcd (unsigned_abs n) d ≡ g
same_divisor n d g is = same_from_IsGcd (unsigned_abs n) d (gcd (unsigned_abs n) d) g (gcd_is (unsigned_abs n) d) is

pub lowest_by : (n z : ℤ) (d e g : ℕ) → IsGcd (unsigned_abs n) d g → 0 < d → z ≡ over n g → e ≡ d / g → T (is_lowest z e)
lowest_by n z zero e g is some p q = absurd (omega arith)
lowest_by n z (suc d) e g is some p q =
    let same = same_divisor n (suc d) g is in
    let numer : over n (gcd (unsigned_abs n) (suc d)) ≡ z = ap (over n) same ∙ sym p in
    let denom : suc d / gcd (unsigned_abs n) (suc d) ≡ e = ap (λ x. suc d / x) same ∙ sym q in
    subst (λ (x : ℤ). T (is_lowest x e)) numer (subst (λ (x : ℕ). T (is_lowest (over n (gcd (unsigned_abs n) (suc d))) x)) denom (quotients_lowest n d))

pub reduced_some : (n : ℤ) (d g : ℕ) (r : Ratio) → IsGcd (unsigned_abs n) d g → 0 < d → r.numer ≡ over n g → r.denom ≡ d / g → unsigned_abs n / g ≤ max_numer → r.denom ≤ max_denom → Some r ≡ reduced n d
reduced_some n zero g r is some p q h k = absurd (omega arith)
reduced_some n (suc d) g r is some p q h k =
    let same = same_divisor n (suc d) g is in
    let e : lowest_terms n d ≡ r = same_ratio (lowest_terms n d) r (ap (over n) same ∙ sym p) (ap (λ x. suc d / x) same ∙ sym q) in
    let size : unsigned_abs r.numer ≤ max_numer = subst (λ (x : ℕ). x ≤ max_numer) (sym (ap unsigned_abs p ∙ unsigned_abs-over n g)) h in
    sym (ap (λ x. cond (is_small x) (Some x) None) e ∙ ap (λ x. cond (x && nat_le r.denom max_denom) (Some r) None) (le-leb (unsigned_abs r.numer) max_numer size) ∙ ap (λ x. cond x (Some r) None) (le-leb r.denom max_denom k))

pub reduced_none : (n : ℤ) (d g : ℕ) → IsGcd (unsigned_abs n) d g → 0 < d → (max_numer < unsigned_abs n / g) ⊎ (max_denom < d / g) → None ≡ reduced n d
reduced_none n zero g is some h = refl
reduced_none n (suc d) g is some (inl h) =
    let same = same_divisor n (suc d) g is in
    let r = lowest_terms n d in
    let size : unsigned_abs n / g ≡ unsigned_abs r.numer = sym (unsigned_abs-over n g) ∙ ap (λ x. unsigned_abs (over n x)) (sym same) in
    let large : max_numer < unsigned_abs r.numer = subst (λ (x : ℕ). max_numer < x) size h in
    sym (ap (λ x. cond (x && nat_le r.denom max_denom) (Some r) None) (lt-leb (unsigned_abs r.numer) max_numer large))
reduced_none n (suc d) g is some (inr h) =
    let same = same_divisor n (suc d) g is in
    let r = lowest_terms n d in
    let large : max_denom < r.denom = subst (λ (x : ℕ). max_denom < suc d / x) (sym same) h in
    let size = nat_le (unsigned_abs r.numer) max_numer in
    sym (ap (λ x. cond x (Some r) None) (and_right size (nat_le r.denom max_denom) (lt-leb r.denom max_denom large)))

over_sign : (n : ℤ) (g : ℕ) → with_sign (unsigned_abs n / g) (int_lt n (pos 0)) ≡ over n g
over_sign (pos n) g = let h : 0 ≤ n = omega arith in ap (with_sign (n / g)) (le-ltb n 0 h)
over_sign (negsuc n) g = refl

-- ---- of a number that went to its 128 bits and back
pub size_by : (n : ℤ) (s : ℕ) → FitsSigned w128 n → s ≡ unsigned_abs (to_z w128 (of_z w128 n)) → s ≡ unsigned_abs n
size_by n s fits e = e ∙ ap unsigned_abs (to_z-of_z w128 n fits)

-- the quotient, by its size and its sign
pub numer_by : (n r : ℤ) (s g : ℕ) → FitsSigned w128 n → FitsSigned w128 r → s ≡ unsigned_abs n → r ≡ with_sign (s / g) (int_lt (to_z w128 (of_z w128 n)) (pos 0)) → to_z w128 (of_z w128 r) ≡ over n g
numer_by n r s g fits result_fits size e =
    to_z-of_z w128 r result_fits ∙ e ∙ ap (λ x. with_sign (s / g) (int_lt x (pos 0))) (to_z-of_z w128 n fits) ∙ ap (λ x. with_sign (x / g) (int_lt n (pos 0))) size ∙ over_sign n g

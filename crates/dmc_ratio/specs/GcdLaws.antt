-- That `gcd` is the greatest common divisor, and what follows from that.
use Rattle.std.specs.Prelude.{◌≡◌, ℕ, zero, suc, ◌*◌, ◌/◌, ◌%◌, ◌<◌}
use Rattle.std.specs.Int.{IsGcd}
use Rattle.std.proofs.Common.{refl, sym, ap, ◌∙◌, subst, arith}
use Rattle.std.proofs.lemmas.Nat.Gcd.{IsGcd-from_zero, IsGcd-from_mod, same_from_IsGcd}
use Rattle.std.proofs.Math.Nat.{mod-lt, mul-one, mul_comm, mul-div_cancel', mul-dvd-mul_left, dvd_of_mul-dvd-mul_left, dvd-mul_right, dvd-mul_left, dvd_trans, dvd_antisymm, pos_of_dvd_of_pos, eq-one_of_dvd-one, eq_of_mul-eq-mul_left}
use Prim.Native.Nat.{◌∣◌}
use Rattle.dmc_ratio.specs.Gcd.{gcd_within, gcd}

within-is : (k a b : ℕ) → b < k → IsGcd a b (gcd_within k a b)
within-is zero a b h = absurd (omega arith)
within-is (suc k) a zero h = IsGcd-from_zero a zero refl
within-is (suc k) a (suc b) h =
    let some : 0 < suc b = omega arith in
    let below : a % suc b < suc b = mod-lt a some in
    IsGcd-from_mod a (suc b) _ (within-is k (suc b) (a % suc b) (omega (arith, below)))

pub gcd_is : (a b : ℕ) → IsGcd a b (gcd a b)
gcd_is a b = within-is (suc b) a b (omega arith)

pub gcd_pos : (a b : ℕ) → 0 < b → 0 < gcd a b
gcd_pos a b some = pos_of_dvd_of_pos (gcd_is a b).1 some

pub gcd_whole : (a : ℕ) → gcd a 1 ≡ 1
gcd_whole a = eq-one_of_dvd-one (gcd_is a 1).1

-- what divides c*a and c*b divides c times the greatest common divisor of a and b
scaled : (c a b d : ℕ) → 0 < c → d ∣ c * a → d ∣ c * b → d ∣ c * gcd a b
scaled c a b d some p q =
    let g = gcd (c * a) (c * b) in
    let is = gcd_is (c * a) (c * b) in
    let by_c : c ∣ g = is.2 c (dvd-mul_right c a) (dvd-mul_right c b) in
    let whole : c * (g / c) ≡ g = mul-div_cancel' c by_c in
    let one : c * (g / c) ∣ c * a = subst (λ (x : ℕ). x ∣ c * a) (sym whole) is.0 in
    let two : c * (g / c) ∣ c * b = subst (λ (x : ℕ). x ∣ c * b) (sym whole) is.1 in
    let least : g / c ∣ gcd a b = (gcd_is a b).2 (g / c) (dvd_of_mul-dvd-mul_left (g / c) some one) (dvd_of_mul-dvd-mul_left (g / c) some two) in
    let below : g ∣ c * gcd a b = subst (λ (x : ℕ). x ∣ c * gcd a b) whole (mul-dvd-mul_left (g / c) c least) in
    dvd_trans d (is.2 d p q) below

pub gcd_scale : (c a b : ℕ) → 0 < c → gcd (c * a) (c * b) ≡ c * gcd a b
gcd_scale c a b some =
    same_from_IsGcd (c * a) (c * b) _ _ (gcd_is (c * a) (c * b)) (mul-dvd-mul_left (gcd a b) c (gcd_is a b).0, mul-dvd-mul_left (gcd a b) c (gcd_is a b).1, λ d p q. scaled c a b d some p q)

-- the quotients by the greatest common divisor have no common divisor above 1
pub gcd_quotients : (a b : ℕ) → 0 < b → gcd (a / gcd a b) (b / gcd a b) ≡ 1
gcd_quotients a b some =
    let g = gcd a b in
    let positive = gcd_pos a b some in
    let is = gcd_is a b in
    let left : g * (a / g) ≡ a = mul-div_cancel' g is.0 in
    let right : g * (b / g) ≡ b = mul-div_cancel' g is.1 in
    let scale : gcd (g * (a / g)) (g * (b / g)) ≡ g * gcd (a / g) (b / g) = gcd_scale g (a / g) (b / g) positive in
    let same : gcd (g * (a / g)) (g * (b / g)) ≡ g = ap (λ x. gcd x (g * (b / g))) left ∙ ap (λ y. gcd a y) right in
    eq_of_mul-eq-mul_left g positive (gcd (a / g) (b / g)) 1 (sym scale ∙ same ∙ sym (mul-one g))

-- if a and b have no common divisor above 1, b divides c if it divides a*c
divides_rest : (a b c : ℕ) → gcd a b ≡ 1 → 0 < c → b ∣ a * c → b ∣ c
divides_rest a b c apart some h =
    let one : c * gcd a b ≡ c = ap (λ x. c * x) apart ∙ mul-one c in
    subst (λ (x : ℕ). b ∣ x) one (scaled c a b b some (subst (λ (x : ℕ). b ∣ x) (mul_comm a c) h) (dvd-mul_left b c))

-- equal fractions in lowest terms have equal denominators
pub same_denom : (a b c d : ℕ) → gcd a b ≡ 1 → gcd c d ≡ 1 → 0 < b → 0 < d → a * d ≡ c * b → b ≡ d
same_denom a b c d p q b_some d_some e =
    let one : b ∣ a * d = subst (λ (x : ℕ). b ∣ x) (sym e) (dvd-mul_left b c) in
    let two : d ∣ c * b = subst (λ (x : ℕ). d ∣ x) e (dvd-mul_left d a) in
    dvd_antisymm (divides_rest a b d p d_some one) (divides_rest c d b q b_some two)

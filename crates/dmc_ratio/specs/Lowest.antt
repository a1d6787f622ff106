-- Lowest terms.
use Rattle.std.specs.Prelude.{◌≡◌, ℕ, zero, suc, ◌*◌, ◌/◌, ◌<◌, Bool, true, false, T, ℤ, pos, negsuc, neg_ℤ, ◌*ℤ◌, nat_eq, unsigned_abs}
use Rattle.std.proofs.Common.{refl, sym, ap, ◌∙◌, subst, arith}
use Rattle.std.proofs.Math.Nat.{div-mul_cancel}
use lib.Dec.{eqb→eq}
use Rattle.dmc_ratio.specs.Gcd.{gcd}
use Rattle.dmc_ratio.specs.GcdLaws.{gcd_is, gcd_whole, gcd_quotients}

-- no number above 1 divides n and d, and d is not 0
abbrev pub is_lowest : ℤ → ℕ → Bool
is_lowest n zero = false
is_lowest n (suc d) = nat_eq (gcd (unsigned_abs n) (suc d)) 1

-- the number of this absolute value, below 0 or not
abbrev pub with_sign : ℕ → Bool → ℤ
with_sign size true = neg_ℤ (pos size)
with_sign size false = pos size

-- n/g, where g divides n
abbrev pub over : ℤ → ℕ → ℤ
over (pos n) g = with_sign (n / g) false
over (negsuc n) g = with_sign (suc n / g) true

pub lowest_pos : (n : ℤ) (d : ℕ) → T (is_lowest n d) → 0 < d
lowest_pos n zero h = elim h [ ]
lowest_pos n (suc d) h = omega arith

pub lowest_apart : (n : ℤ) (d : ℕ) → T (is_lowest n d) → gcd (unsigned_abs n) d ≡ 1
lowest_apart n zero h = elim h [ ]
lowest_apart n (suc d) h = eqb→eq (gcd (unsigned_abs n) (suc d)) 1 h

pub lowest_from_apart : (n : ℤ) (d : ℕ) → 0 < d → gcd (unsigned_abs n) d ≡ 1 → T (is_lowest n d)
lowest_from_apart n zero some e = absurd (omega arith)
lowest_from_apart n (suc d) some e = subst (λ (x : ℕ). T (nat_eq x 1)) (sym e) tt

pub whole_lowest : (n : ℕ) → T (is_lowest (pos n) 1)
whole_lowest n = lowest_from_apart (pos n) 1 (omega arith) (gcd_whole n)

unsigned_abs-neg : (n : ℕ) → unsigned_abs (neg_ℤ (pos n)) ≡ n
unsigned_abs-neg zero = refl
unsigned_abs-neg (suc n) = refl

pub unsigned_abs-over : (n : ℤ) (g : ℕ) → unsigned_abs (over n g) ≡ unsigned_abs n / g
unsigned_abs-over (pos n) g = refl
unsigned_abs-over (negsuc n) g = unsigned_abs-neg (suc n / g)

pub quotient_pos : (n : ℤ) (d : ℕ) → 0 < d → 0 < d / gcd (unsigned_abs n) d
quotient_pos n d some =
    let g = gcd (unsigned_abs n) d in
    let e : d / g * g ≡ d = div-mul_cancel g (gcd_is (unsigned_abs n) d).1 in
    positive_factor (d / g) g (subst (λ (x : ℕ). 0 < x) (sym e) some)
  where
    positive_factor : (a b : ℕ) → 0 < a * b → 0 < a
    positive_factor zero b h = absurd (omega arith)
    positive_factor (suc a) b h = omega arith

-- the quotients by the greatest common divisor are in lowest terms
pub quotients_lowest : (n : ℤ) (d : ℕ) → T (is_lowest (over n (gcd (unsigned_abs n) (suc d))) (suc d / gcd (unsigned_abs n) (suc d)))
quotients_lowest n d =
    let some : 0 < suc d = omega arith in
    let g = gcd (unsigned_abs n) (suc d) in
    lowest_from_apart (over n g) (suc d / g) (quotient_pos n (suc d) some) (ap (λ x. gcd x (suc d / g)) (unsigned_abs-over n g) ∙ gcd_quotients (unsigned_abs n) (suc d) some)

cross : (m d g : ℕ) → m / g * g ≡ m → d / g * g ≡ d → m / g * d ≡ m * (d / g)
cross m d g e f = let h : m / g * (d / g * g) ≡ m / g * g * (d / g) = omega arith in ap (λ x. m / g * x) (sym f) ∙ h ∙ ap (λ x. x * (d / g)) e

neg_scale : (a b : ℕ) → neg_ℤ (pos a) *ℤ pos b ≡ neg_ℤ (pos (a * b))
neg_scale zero b = let e : 0 * b ≡ 0 = omega arith in ap pos e ∙ sym (ap (λ x. neg_ℤ (pos x)) e)
neg_scale (suc a) b = refl

-- the quotients by the greatest common divisor are the same fraction
pub over_same : (n : ℤ) (d g : ℕ) → unsigned_abs n / g * g ≡ unsigned_abs n → d / g * g ≡ d → over n g *ℤ pos d ≡ n *ℤ pos (d / g)
over_same (pos n) d g e f = ap pos (cross n d g e f)
over_same (negsuc n) d g e f = neg_scale (suc n / g) d ∙ ap (λ x. neg_ℤ (pos x)) (cross (suc n) d g e f)

-- The value of a ratio tag, a fraction in lowest terms, and what its operations compute.
use Rattle.std.specs.Prelude.{◌≡◌, ℕ, zero, suc, ◌/◌, ◌^◌, ◌<◌, ◌≤◌, Bool, ◌&&◌, T, ℤ, pos, negsuc, neg_ℤ, Option, Some, None, if◌then◌else◌, nat_le, unsigned_abs}
use Rattle.std.specs.Int.{IsGcd, div_ceil}
use Rattle.std.specs.Coded.{Coded, coded×, coded_ℤ, coded_ℕ}
use Rattle.std.proofs.Common.{ap}
use base.Stored.{coded_via}
use lib.Dec.{T_prop}
use mathlib.Core.HLevel.{Σ_prop_path}
use Rattle.dmc_tag.specs.Tag.{Fraction, Tagging, fraction_cmp, sum_of, difference_of, multiple_of}
use Rattle.dmc_tag.specs.Tag as tag
use Rattle.dmc_ratio.specs.Gcd.{gcd}
use Rattle.dmc_ratio.specs.Lowest.{is_lowest, over, whole_lowest, quotients_lowest}

-- the greatest absolute value of a numerator
abbrev pub max_numer : ℕ
max_numer = 2 ^ 90

abbrev pub max_denom : ℕ
max_denom = 2 ^ 32

-- numer/denom in lowest terms, of any size
pub record Ratio : Type 0 where
  pub numer : ℤ
  pub denom : ℕ
  pub lowest : T (is_lowest numer denom)

-- a ratio is its two numbers
pub same_ratio : (a b : Ratio) → a.numer ≡ b.numer → a.denom ≡ b.denom → a ≡ b
same_ratio a b e f = ap (λ (r : (p : ℤ × ℕ) × T (is_lowest p.0 p.1)). record { numer = r.0.0; denom = r.0.1; lowest = r.1 }) (Σ_prop_path (λ (p : ℤ × ℕ). T_prop (is_lowest p.0 p.1)) (λ i. (e i, f i)))

abbrev pub ratio_code : Coded Ratio
ratio_code = coded_via (coded× coded_ℤ coded_ℕ) (λ (r : Ratio). (r.numer, r.denom)) (λ a b e. same_ratio a b (ap (λ (p : ℤ × ℕ). p.0) e) (ap (λ (p : ℤ × ℕ). p.1) e))

-- n/(d + 1) in lowest terms
abbrev pub lowest_terms : ℤ → ℕ → Ratio
lowest_terms n d = record {
  numer = over n (gcd (unsigned_abs n) (suc d));
  denom = suc d / gcd (unsigned_abs n) (suc d);
  lowest = quotients_lowest n d;
}

abbrev pub is_small : Ratio → Bool
is_small r = nat_le (unsigned_abs r.numer) max_numer && nat_le r.denom max_denom

-- n/d in lowest terms, if that is small enough
abbrev pub reduced : ℤ → ℕ → Option Ratio
reduced n zero = None
reduced n (suc d) = if is_small (lowest_terms n d) then Some (lowest_terms n d) else None

abbrev pub whole : ℕ → Ratio
whole n = record { numer = pos n; denom = 1; lowest = whole_lowest n }

-- the least whole number not below n/d
abbrev pub ceil_of : ℤ → ℕ → ℤ
ceil_of (pos n) d = pos (div_ceil n d)
ceil_of (negsuc n) d = neg_ℤ (pos (suc n / d))

abbrev pub ratio_fraction : Ratio → Fraction
ratio_fraction a = record { numer = a.numer; denom = a.denom }

-- the ratio of a fraction
abbrev pub from_fraction : Fraction → Option Ratio
from_fraction f = reduced f.numer f.denom

abbrev pub ratio_ops : Tagging Ratio
ratio_ops = record {
  compare = λ a b. fraction_cmp (ratio_fraction a) (ratio_fraction b);
  of_moment = whole;
  spacing = λ hz rate. from_fraction (tag.ratio hz rate);
  steps = λ a k. from_fraction (multiple_of k (ratio_fraction a));
  plus = λ a b. from_fraction (sum_of (ratio_fraction a) (ratio_fraction b));
  minus = λ a b. from_fraction (difference_of (ratio_fraction a) (ratio_fraction b));
  ceil = λ a. ceil_of a.numer a.denom;
}

-- a fraction n/d is a value if, with g the greatest common divisor of n and d, |n|/g is at most 2^90 and d/g at most 2^32
pub record IsRatioValue (f : Fraction) : Type 0 where
  pub some : 0 < f.denom
  pub numer_fits : (g : ℕ) → IsGcd (unsigned_abs f.numer) f.denom g → unsigned_abs f.numer / g ≤ max_numer
  pub denom_fits : (g : ℕ) → IsGcd (unsigned_abs f.numer) f.denom g → f.denom / g ≤ max_denom

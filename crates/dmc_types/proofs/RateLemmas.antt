-- Divisors and their counterparts: of two divisors the greater has the lesser counterpart.
use Rattle.std.proofs.Common.{◌≡◌, ℕ, ◌+◌, ◌*◌, ◌/◌, ◌%◌, ◌<◌, ◌≤◌, inl, inr, arith}
use Rattle.std.proofs.Math.Nat.{div-add-mod, mul-le-mul, mul-lt-mul_of_pos_right, mul-div_cancel, mul-mod_left, mul_comm, mul-zero, lt-div-mul-add, mul-le-mul_left, mul-le-mul_right, div-mul-le_self, div-le_of_le-mul}
use Rattle.std.proofs.lemmas.Bool.{cases_lt}
use Rattle.std.proofs.lemmas.Nat.{le-div}
use Rattle.dmc_types.specs.Rates.{IsDivisor, IsGreatestAtMost, IsLeastAtLeast}

-- a divisor and its counterpart
pub paired : (hz d : ℕ) → IsDivisor hz d → d * (hz / d) ≡ hz
paired hz d h = let whole = div-add-mod hz d in let exact = h.exact in omega (arith, whole, exact)

module _ (hz : ℕ) (some : 0 < hz) where
  counterpart_some : (d : ℕ) → IsDivisor hz d → 0 < hz / d
  counterpart_some d h = by (hz / d) (paired hz d h)
    where
      by : (c : ℕ) → d * c ≡ hz → 0 < c
      by c e = elim (cases_lt 0 c) [ inl p ↦ p | inr none ↦ let zero_is : c ≡ 0 = omega arith in let e0 : d * 0 ≡ hz = rw zero_is at e in absurd (omega (arith, mul-zero d)) ]

  -- the counterpart of a divisor is one
  pub counterpart : (d : ℕ) → IsDivisor hz d → IsDivisor hz (hz / d)
  counterpart d h = record { some = counterpart_some d h; exact = let e = paired hz d h in by (hz / d) e }
    where
      by : (c : ℕ) → d * c ≡ hz → hz % c ≡ 0
      by c e = rw (← e) (mul-mod_left d c)

  -- and its counterpart is the divisor
  pub counterpart_twice : (d : ℕ) → IsDivisor hz d → hz / (hz / d) ≡ d
  counterpart_twice d h = by (hz / d) (paired hz d h) (counterpart_some d h)
    where
      by : (c : ℕ) → d * c ≡ hz → 0 < c → hz / c ≡ d
      by c e p = rw (← e) (mul-div_cancel d {n = c} p)

  -- a greater divisor has a lesser counterpart
  pub lesser_counterpart : (d e : ℕ) → IsDivisor hz d → IsDivisor hz e → hz / d < e → hz / e < d
  lesser_counterpart d e h k greater = by (hz / d) (hz / e) (paired hz d h) (paired hz e k) greater
    where
      by : (c f : ℕ) → d * c ≡ hz → e * f ≡ hz → c < e → f < d
      by c f p q less = elim (cases_lt f d) [
        | inl found ↦ found
        | inr above ↦
            let most : e * d ≤ e * f = mul-le-mul {n₁ = e} {m₁ = d} {n₂ = e} {m₂ = f} (omega arith) above in
            let strict : c * d < e * d = mul-lt-mul_of_pos_right {m = c} {n = e} {k = d} less h.some in
            absurd (omega (arith, mul_comm c d))
      ]

  -- a divisor that is not below one which is past the root has its counterpart below that one
  pub past_root : (d e : ℕ) → 0 < d → hz / d < d → IsDivisor hz e → d ≤ e → hz / e < d
  past_root d e p small k above = by (hz / e) (paired hz e k)
    where
      by : (f : ℕ) → e * f ≡ hz → f < d
      by f q = elim (cases_lt f d) [
        | inl found ↦ found
        | inr too_great ↦
            let most : d * d ≤ e * f = mul-le-mul {n₁ = d} {m₁ = d} {n₂ = e} {m₂ = f} above too_great in
            let less : (hz / d + 1) * d ≤ d * d = mul-le-mul {n₁ = hz / d + 1} {m₁ = d} {n₂ = d} {m₂ = d} (omega arith) (omega arith) in
            let whole = lt-div-mul-add {a = hz} {b = d} p in
            absurd (omega arith)
      ]

  -- ---- the greatest divisor at most a bound

  module _ (most d best : ℕ) (here : 0 < d) (divides : IsDivisor hz best) (within : best ≤ most)
      (below : (other : ℕ) → IsDivisor hz other → other ≤ most → other < d → other ≤ best)
      (above : (other : ℕ) → IsDivisor hz other → other < d → most < hz / other) where
    -- the counterpart of the first divisor whose counterpart is within the bound
    pub found_counterpart : IsDivisor hz d → hz / d ≤ most → IsGreatestAtMost hz most (hz / d)
    found_counterpart h fits = record {
      divides = counterpart d h;
      within = fits;
      greatest = λ other k small. elim (cases_lt (hz / d) other) [
        | inl greater ↦
            let less = lesser_counterpart d other h k greater in
            let past = above (hz / other) (counterpart other k) less in
            let twice = counterpart_twice other k in
            absurd (omega arith)
        | inr fine ↦ fine
      ];
    }

    -- the best one, once the root is passed
    pub found_best : hz / d < d → IsGreatestAtMost hz most best
    found_best small = record {
      divides = divides;
      within = within;
      greatest = λ other k fits. elim (cases_lt other d) [
        | inl less ↦ below other k fits less
        | inr more ↦
            let less = past_root d other here small k more in
            let past = above (hz / other) (counterpart other k) less in
            let twice = counterpart_twice other k in
            absurd (omega arith)
      ];
    }

-- ---- the least divisor at least a rate

pub least_from_greatest : (hz rate found : ℕ) → 0 < rate → 0 < hz → IsGreatestAtMost hz (hz / rate) found → IsLeastAtLeast hz rate (hz / found)
least_from_greatest hz rate found some positive h = record {
  divides = counterpart hz positive found h.divides;
  reaches =
      let most = mul-le-mul_right {m = found} {n = hz / rate} rate h.within in
      let within = div-mul-le_self hz rate in
      le-div rate hz found h.divides.some (omega (arith, mul_comm rate found));
  least = λ other k reached.
      let most = mul-le-mul_left {m = rate} {n = other} (hz / other) reached in
      let within = div-mul-le_self hz other in
      let fits : hz / other ≤ hz / rate = le-div (hz / other) hz rate some (omega arith) in
      let greatest = mul-le-mul_left {m = hz / other} {n = found} other (h.greatest (hz / other) (counterpart hz positive other k) fits) in
      let pair = paired hz other k in
      div-le_of_le-mul found {m = hz} {n = other} (omega (arith, mul_comm found other));
}

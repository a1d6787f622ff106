-- The least nanoseconds of a moment: a product of the clock, divided and rounded up.
use Rattle.std.proofs.Common.{◌≡◌, ℕ, ◌+◌, ◌*◌, ◌^◌, ◌<◌, ◌≤◌, ◌↔◌, ◌⊎◌, inl, inr, Some, Result, Ok, Err, refl, sym, ◌∙◌, subst, arith}
use Rattle.std.specs.Prelude.{IfSome, IsNone}
use Rattle.std.specs.Result.{OkIff, result_ok}
use Rattle.std.proofs.Math.Nat.{mul-le-mul_left, mul-le-mul_right, div-mul-le_self}
use Rattle.std.proofs.lemmas.Bool.{cases_lt}
use Rattle.std.proofs.lemmas.Nat.{le-div}
use Rattle.std.proofs.lemmas.Grind.{div_ceil_times}
use Rattle.std.specs.Int.{div_ceil}
use Rattle.dmc_types.specs.Clock.{IsHz, IsLeastNanos, ticks_after, nanos_per_second}

-- this many ticks have passed exactly if the products say so
pub passed_from_products : (hz ticks nanos : ℕ) → ticks * nanos_per_second ≤ nanos * hz → ticks ≤ ticks_after hz nanos
passed_from_products hz ticks nanos h = le-div ticks (nanos * hz) nanos_per_second (omega arith) h

pub products_from_passed : (hz ticks nanos : ℕ) → ticks ≤ ticks_after hz nanos → ticks * nanos_per_second ≤ nanos * hz
products_from_passed hz ticks nanos h =
    let whole = div-mul-le_self (nanos * hz) nanos_per_second in
    omega arith

pub least_nanos : (hz ticks : ℕ) → 0 < hz → IsLeastNanos hz ticks (div_ceil (ticks * nanos_per_second) hz)
least_nanos hz ticks some =
    let times = div_ceil_times (ticks * nanos_per_second) hz some in record {
      reaches = passed_from_products hz ticks (div_ceil (ticks * nanos_per_second) hz) times.0;
      least = λ other passed. fewest (div_ceil (ticks * nanos_per_second) hz) other times.1 (products_from_passed hz ticks other passed);
    }
  where
    fewest : (n other : ℕ) → n * hz < ticks * nanos_per_second + hz → ticks * nanos_per_second ≤ other * hz → n ≤ other
    fewest n other few enough = elim (cases_lt other n) [
      | inl less ↦ let more = mul-le-mul_right {m = other + 1} {n = n} hz (omega arith) in absurd (omega arith)
      | inr fine ↦ fine
    ]

-- if the least nanoseconds do not fit, none that fit are enough
pub none_below : (hz ticks nanos bound : ℕ) → IsLeastNanos hz ticks nanos → bound ≤ nanos → (other : ℕ) → other < bound → ticks_after hz other < ticks
none_below hz ticks nanos bound h past other fits = elim (cases_lt (ticks_after hz other) ticks) [
  | inl less ↦ less
  | inr enough ↦ absurd (let least = h.least other enough in omega arith)
]

-- a tick is a nanosecond or more, so as many ticks as do not fit need more nanoseconds than fit
pub none_of_many : (hz ticks bound : ℕ) → hz ≤ nanos_per_second → bound ≤ ticks → (other : ℕ) → other < bound → ticks_after hz other < ticks
none_of_many hz ticks bound most past other fits = elim (cases_lt (ticks_after hz other) ticks) [
  | inl less ↦ less
  | inr enough ↦
      let products = products_from_passed hz ticks other enough in
      let at_most = mul-le-mul_left {m = hz} {n = nanos_per_second} other most in
      absurd (omega arith)
]

-- ---- what is returned, by what fits 64 bits

-- a number that fits is the one that is had
pub had_where_it_fits : {E : Type 0} (r : Result ℕ E) (P : Type 0) (n x : ℕ) → OkIff r P n → result_ok r ≡ Some x → x ≡ n
had_where_it_fits (Ok y) P n x fits e = let same : y ≡ x = cc in sym same ∙ fits.1
had_where_it_fits (Err e) P n x fits none = cc

module _ (hz ticks nanos : ℕ) (valid : IsHz hz) (h : IsLeastNanos hz ticks nanos) where
  abbrev NoneFits : Type 0
  NoneFits = (other : ℕ) → other < 2 ^ 64 → ticks_after hz other < ticks

  pub value_where_it_fits : {E : Type 0} (r : Result ℕ E) → OkIff r (nanos < 2 ^ 64) nanos → IfSome (result_ok r) (IsLeastNanos hz ticks)
  value_where_it_fits (Ok x) fits = subst (λ n. IsLeastNanos hz ticks n) (sym fits.1) h
  value_where_it_fits (Err e) fits = tt

  pub none_where_none_fits : {E : Type 0} (r : Result ℕ E) → OkIff r (nanos < 2 ^ 64) nanos → IsNone (result_ok r) ↔ ((IsHz hz → ⊥) ⊎ NoneFits)
  none_where_none_fits (Ok x) fits = (λ none. absurd (some_not_none none), λ either. absurd (elim either [ inl bad ↦ bad valid | inr none ↦ let less = none nanos fits.0 in let reached = h.reaches in omega arith ]))
    where
      some_not_none : IsNone (Some x) → ⊥
      some_not_none none = cc
  none_where_none_fits (Err e) fits = (λ none. inr (none_below hz ticks nanos (2 ^ 64) h (not_below nanos fits)), λ either. refl)
    where
      not_below : (n : ℕ) → ¬ (n < 2 ^ 64) → 2 ^ 64 ≤ n
      not_below n never = elim (cases_lt n (2 ^ 64)) [ inl less ↦ absurd (never less) | inr more ↦ more ]

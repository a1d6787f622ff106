-- The value of a tick tag, a whole number of absolute value at most 2^90, and what its operations compute.
use Rattle.std.specs.Prelude.{◌≡◌, ℕ, ◌*◌, ◌/◌, ◌%◌, ◌^◌, ◌<◌, ◌≤◌, ◌||◌, not, ℤ, pos, ◌+ℤ◌, ◌-ℤ◌, ◌*ℤ◌, Option, Some, None, if◌then◌else◌, nat_le, ◌==◌, unsigned_abs}
use Rattle.std.specs.Ordering.{int_cmp}
use Rattle.dmc_tag.specs.Tag.{Fraction, Tagging}

-- the greatest absolute value of a tag
abbrev pub greatest : ℕ
greatest = 2 ^ 90

-- the whole number, if it is no greater
abbrev pub tick : ℤ → Option ℤ
tick z = if nat_le (unsigned_abs z) greatest then Some z else None

-- hz/rate, if the rate divides hz
abbrev pub tick_spacing : ℕ → ℕ → Option ℤ
tick_spacing hz rate = if (rate == 0) || not (hz % rate == 0) then None else tick (pos (hz / rate))

abbrev pub tick_ops : Tagging ℤ
tick_ops = record {
  compare = int_cmp;
  of_moment = pos;
  spacing = tick_spacing;
  steps = λ a k. tick (pos k *ℤ a);
  plus = λ a b. tick (a +ℤ b);
  minus = λ a b. tick (a -ℤ b);
  ceil = λ a. a;
}

abbrev pub tick_fraction : ℤ → Fraction
tick_fraction a = record { numer = a; denom = 1 }

-- a fraction n/d is a value if d divides n and |n| is at most d*2^90
pub record IsTickValue (f : Fraction) : Type 0 where
  pub some : 0 < f.denom
  pub divides : unsigned_abs f.numer % f.denom ≡ 0
  pub bound : unsigned_abs f.numer ≤ f.denom * greatest

-- The greatest common divisor, computed.
use Rattle.std.specs.Prelude.{ℕ, zero, suc, ◌%◌}

-- Euclid's algorithm, in at most this many steps
abbrev pub gcd_within : ℕ → ℕ → ℕ → ℕ
gcd_within zero a b = a
gcd_within (suc steps) a zero = a
gcd_within (suc steps) a (suc b) = gcd_within steps (suc b) (a % suc b)

-- the greatest number that divides both; b + 1 steps are enough, since b falls in each
abbrev pub gcd : ℕ → ℕ → ℕ
gcd a b = gcd_within (suc b) a b

use Rattle.std.proofs.Common.{ℕ}
use Rattle.std.specs.Int.{IsGcd}
use Rattle.dmc_ratio.proofs.divisor.gcd.Given as goal

-- what is the greatest common divisor of the two numbers now is that of a and b
abbrev pub invariant-loop-divisor : goal.invariant-loop-divisor
invariant-loop-divisor l = (g : ℕ) → IsGcd l.number l.divisor g → IsGcd l.fn.a l.fn.b g

abbrev pub decreases-loop-divisor : goal.decreases-loop-divisor
decreases-loop-divisor l = l.divisor

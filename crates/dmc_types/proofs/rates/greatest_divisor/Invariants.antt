use Rattle.std.proofs.Common.{ℕ, ◌/◌, ◌<◌, ◌≤◌}
use Rattle.dmc_types.specs.Rates.{IsDivisor}
use Rattle.dmc_types.proofs.rates.greatest_divisor.Given as goal

-- the best of the divisors so far, of which each has a counterpart above the bound
abbrev pub invariant-loop-divisor : goal.invariant-loop-divisor
invariant-loop-divisor l =
    IsDivisor l.hz l.best × (l.best ≤ l.most)
    × ((other : ℕ) → IsDivisor l.hz other → other ≤ l.most → other < l.divisor → other ≤ l.best)
    × ((other : ℕ) → IsDivisor l.hz other → other < l.divisor → l.most < l.hz / other)

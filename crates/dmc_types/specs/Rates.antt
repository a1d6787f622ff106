-- Rates that divide hz, near a given rate.
use Rattle.std.specs.Prelude.{◌≡◌, ℕ, ◌%◌, ◌<◌, ◌≤◌}

-- the rate divides hz, so its spacing in ticks is whole
pub record IsDivisor (hz rate : ℕ) : Type 0 where
  pub some : 0 < rate
  pub exact : hz % rate ≡ 0

-- the greatest divisor of hz that is at most the rate
pub record IsGreatestAtMost (hz rate found : ℕ) : Type 0 where
  pub divides : IsDivisor hz found
  pub within : found ≤ rate
  pub greatest : (other : ℕ) → IsDivisor hz other → other ≤ rate → other ≤ found

-- the least divisor of hz that is at least the rate
pub record IsLeastAtLeast (hz rate found : ℕ) : Type 0 where
  pub divides : IsDivisor hz found
  pub reaches : rate ≤ found
  pub least : (other : ℕ) → IsDivisor hz other → rate ≤ other → found ≤ other

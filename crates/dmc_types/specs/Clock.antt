-- A clock that counts nanoseconds, and moments in ticks.
use Rattle.std.specs.Prelude.{ℕ, ◌*◌, ◌/◌, ◌<◌, ◌≤◌}
use Rattle.dmc_types.specs.Limits.{max_hz}

abbrev pub nanos_per_second : ℕ
nanos_per_second = 1000000000

-- a configuration may have this hz
abbrev pub IsHz : ℕ → Type 0
IsHz hz = (0 < hz) × (hz ≤ max_hz)

-- the whole ticks that have passed after this many nanoseconds
abbrev pub ticks_after : ℕ → ℕ → ℕ
ticks_after hz nanos = nanos * hz / nanos_per_second

-- the least number of nanoseconds after which this many ticks have passed
pub record IsLeastNanos (hz ticks nanos : ℕ) : Type 0 where
  pub reaches : ticks ≤ ticks_after hz nanos
  pub least : (other : ℕ) → ticks ≤ ticks_after hz other → nanos ≤ other

-- What each call of the header on rates and clocks returns: a number, or the fault.
use Rattle.std.specs.Prelude.{◌≡◌, ℕ, ◌+◌, ◌*◌, ◌^◌, ◌<◌, ◌≤◌, ◌⊎◌, Result, Ok, Err}
use Rattle.dmc_types.specs.Limits.{max_moment}
use Rattle.dmc_types.specs.Clock.{IsHz, IsLeastNanos, ticks_after}
use Rattle.dmc_types.specs.Rates.{IsGreatestAtMost, IsLeastAtLeast}
use Rattle.dmc_c.specs.declared.fault.Fault.{Fault}
use Rattle.dmc_c.specs.declared.fault.Fault.TheVariants.{Value}
use Rattle.dmc_types.specs.declared.refusal.ValueFault.TheVariants as values

-- a 128-bit number from its two halves
abbrev pub from_halves : ℕ → ℕ → ℕ
from_halves low high = high * 2 ^ 64 + low

abbrev pub FindsAtMost : ℕ → ℕ → Result ℕ Fault → Type 0
FindsAtMost hz rate (Ok found) = IsHz hz × IsGreatestAtMost hz rate found
FindsAtMost hz rate (Err (Value values.Config)) = IsHz hz → ⊥
FindsAtMost hz rate (Err (Value values.Rate)) = IsHz hz × (rate ≡ 0)
FindsAtMost hz rate (Err fault) = ⊥

abbrev pub FindsAtLeast : ℕ → ℕ → Result ℕ Fault → Type 0
FindsAtLeast hz rate (Ok found) = IsHz hz × IsLeastAtLeast hz rate found
FindsAtLeast hz rate (Err (Value values.Config)) = IsHz hz → ⊥
FindsAtLeast hz rate (Err (Value values.Rate)) = IsHz hz × ((rate ≡ 0) ⊎ (hz < rate))
FindsAtLeast hz rate (Err fault) = ⊥

abbrev pub ReadsClock : ℕ → ℕ → Result ℕ Fault → Type 0
ReadsClock hz nanos (Ok moment) = IsHz hz × (moment ≡ ticks_after hz nanos)
ReadsClock hz nanos (Err (Value values.Config)) = IsHz hz → ⊥
ReadsClock hz nanos (Err (Value values.Moment)) = IsHz hz × (max_moment < ticks_after hz nanos)
ReadsClock hz nanos (Err fault) = ⊥

-- no number of nanoseconds that fits 64 bits is enough
abbrev pub NoneFits : ℕ → ℕ → Type 0
NoneFits hz ticks = (nanos : ℕ) → nanos < 2 ^ 64 → ticks_after hz nanos < ticks

abbrev pub WaitsFor : ℕ → ℕ → Result ℕ Fault → Type 0
WaitsFor hz ticks (Ok nanos) = IsHz hz × IsLeastNanos hz ticks nanos
WaitsFor hz ticks (Err (Value values.Config)) = IsHz hz → ⊥
WaitsFor hz ticks (Err (Value values.Moment)) = IsHz hz × NoneFits hz ticks
WaitsFor hz ticks (Err fault) = ⊥

-- the same of a moment, which has to be one
abbrev pub WaitsForMoment : ℕ → ℕ → Result ℕ Fault → Type 0
WaitsForMoment hz moment (Ok nanos) = (moment ≤ max_moment) × WaitsFor hz moment (Ok nanos)
WaitsForMoment hz moment (Err (Value values.Config)) = IsHz hz → ⊥
WaitsForMoment hz moment (Err (Value values.Moment)) = IsHz hz × ((max_moment < moment) ⊎ NoneFits hz moment)
WaitsForMoment hz moment (Err fault) = ⊥

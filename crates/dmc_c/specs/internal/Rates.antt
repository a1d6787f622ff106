-- The hz that a caller gave.
use Rattle.std.specs.Prelude.{ℕ, ◌&&◌, nat_lt, nat_le, if◌then◌else◌, Result, Ok, Err}
use Rattle.dmc_types.specs.Limits.{max_hz}
use Rattle.dmc_c.specs.declared.fault.Fault.{Fault}
use Rattle.dmc_c.specs.declared.fault.Fault.TheVariants.{Value}
use Rattle.dmc_types.specs.declared.refusal.ValueFault.TheVariants as values

-- the ticks a second that a number names
abbrev pub hz_of : ℕ → Result ℕ Fault
hz_of hz = if nat_lt 0 hz && nat_le hz max_hz then Ok hz else Err (Value values.Config)

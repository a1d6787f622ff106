-- The spacing of a rate q is hz/q ticks.
use Rattle.std.specs.Prelude.{ℕ, Option, Some, None, Result, Ok}
use Rattle.std.specs.Option.{ok_or, unwrap_or}
use Rattle.dmc_types.specs.declared.refusal.Field.{Field}
use Rattle.dmc_types.specs.declared.refusal.Field.TheVariants.{Reservation, Weight, Limit}
use Rattle.dmc_types.specs.Values.{Rates}
use Rattle.dmc_tag.specs.Tag.{Tagging}
use Rattle.dmc_tag.specs.Outcome.{◌>>=◌}
use Rattle.dmc_tag.specs.declared.spacing.Spacings.{Spacings}

-- the spacing of a rate, or the name of the rate if that is no value
abbrev pub spacing_of : {T : Type 0} → Tagging T → ℕ → Field → ℕ → Result T Field
spacing_of ops hz field rate = ok_or (ops.spacing hz rate) field

-- the spacing of a rate that may be absent
abbrev pub optional_spacing : {T : Type 0} → Tagging T → ℕ → Field → Option ℕ → Result (Option T) Field
optional_spacing ops hz field None = Ok None
optional_spacing ops hz field (Some rate) = spacing_of ops hz field rate >>= λ spacing. Ok (Some spacing)

-- the spacings of a client's rates, or the first that is no value: reservation, weight, limit
abbrev pub spacings_of : {T : Type 0} → Tagging T → ℕ → Rates → Result (Spacings T) Field
spacings_of ops hz info = do
  r ← optional_spacing ops hz Reservation info.reservation
  p ← spacing_of ops hz Weight info.weight
  l ← optional_spacing ops hz Limit info.limit
  Ok (record { r = r; l = unwrap_or l (ops.of_moment 0); p = p })

-- The adjustment and the reduction of one record.
use Rattle.std.specs.Prelude.{ℕ, Bool, true, not, ◌||◌, drop, if◌then◌else◌, Option, Some, None, Result, Ok}
use Rattle.dmc_types.specs.declared.refusal.Refusal.{Refusal}
use Rattle.dmc_types.specs.declared.refusal.Refusal.TheVariants.{Range}
use Rattle.dmc_tag.specs.Outcome.{◌>>=◌, refuse_if, in_range}
use Rattle.dmc_tag.specs.Tag.{Tagging}
use Rattle.dmc_client.specs.Record.{Rec, less_shares, less_reservations, has_less_shares, has_less_reservations}

-- Adjustment: an idle client isn't shifted
abbrev pub shifted : {T : Type 0} → Tagging T → T → Rec T → Rec T
shifted ops amount rec = if rec.idle then rec else less_shares ops amount rec

-- each shifted tag is a value
abbrev pub is_shiftable : {T : Type 0} → Tagging T → T → Rec T → Bool
is_shiftable ops amount rec = rec.idle || has_less_shares ops amount rec

-- Reduction: without an amount nothing is subtracted
abbrev pub reduced : {T : Type 0} → Tagging T → Option T → Rec T → Rec T
reduced ops None rec = rec
reduced ops (Some amount) rec = less_reservations ops amount rec

-- each reduced tag is a value
abbrev pub is_reducible : {T : Type 0} → Tagging T → Option T → Rec T → Bool
is_reducible ops None rec = true
is_reducible ops (Some amount) rec = has_less_reservations ops amount rec

-- without the first request
abbrev pub popped : {T : Type 0} → Rec T → Rec T
popped rec = record rec { requests = drop 1 rec.requests }

-- a spacing for each unit of the cost
abbrev pub amount_for : {T : Type 0} → Tagging T → Option T → ℕ → Result (Option T) Refusal
amount_for ops None cost = Ok None
amount_for ops (Some spacing) cost = in_range (ops.steps spacing cost) >>= λ amount. Ok (Some amount)

-- what a grant of the first request by weight takes off, if that has this cost
abbrev pub reduction_for : {T : Type 0} → Tagging T → Rec T → ℕ → Result (Option T) Refusal
reduction_for ops rec cost = do
  amount ← amount_for ops rec.spacings.r cost
  _ ← refuse_if (not (is_reducible ops amount (popped rec))) Range
  Ok amount

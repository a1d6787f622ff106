-- What C reads of a reply. A call that is not DMC_OK writes nothing.
use Rattle.std.specs.Prelude.{◌≡◌, ℕ, ◌/◌, ◌%◌, ◌^◌, Bool, true, false, pos, ◌+ℤ◌, ◌*ℤ◌, Option, Some, None, Result, Ok, Err}
use Rattle.dmc_types.specs.Values.{Params}
use Rattle.dmc_types.specs.declared.ids.ClientId.{ClientId}
use Rattle.dmc_types.specs.declared.ids.Token.{Token}
use Rattle.dmc_types.specs.declared.config.PhaseType.{PhaseType}
use Rattle.dmc_types.specs.declared.config.PhaseType.TheVariants.{Reservation, Priority}
use Rattle.dmc_tag.specs.Tag.{Fraction}
use Rattle.dmc_tag.specs.declared.reply.Tags.{Tags}
use Rattle.dmc_tag.specs.declared.reply.Reply.{Reply}
use Rattle.dmc_tag.specs.declared.reply.Reply.TheVariants.{Tagged, Granted, Later, Nothing, Removed, Cleaned}
use Rattle.dmc_tracker.specs.Numbers.{Numbers, ServerNumbers}
use Rattle.dmc_c.specs.declared.fault.Fault.{Fault}
use Rattle.dmc_c.specs.declared.outputs.DmcTag.{DmcTag}
use Rattle.dmc_c.specs.declared.outputs.DmcTags.{DmcTags}
use Rattle.dmc_c.specs.declared.outputs.DmcPulled.{DmcPulled}
use Rattle.dmc_c.specs.declared.outputs.DmcStamp.{DmcStamp}
use Rattle.dmc_c.specs.declared.outputs.DmcTrack.{DmcTrack}

-- ---- tags

-- the fraction that C reads
abbrev pub value_of : DmcTag → Fraction
value_of tag = record { numer = tag.high *ℤ pos (2 ^ 64) +ℤ pos tag.low; denom = tag.denom }

abbrev pub zero_over_one : Fraction
zero_over_one = record { numer = pos 0; denom = 1 }

abbrev pub is_reserved : Option Fraction → Bool
is_reserved None = false
is_reserved (Some r) = true

-- the reservation tag, or 0/1 if there is none
abbrev pub reservation_or_zero : Option Fraction → Fraction
reservation_or_zero None = zero_over_one
reservation_or_zero (Some r) = r

-- C reads these tags
pub record IsTags (tags : Tags Fraction) (out : DmcTags) : Type 0 where
  pub reserved : out.reserved ≡ is_reserved tags.r
  pub r : value_of out.r ≡ reservation_or_zero tags.r
  pub l : value_of out.l ≡ tags.l
  pub p : value_of out.p ≡ tags.p

abbrev pub TagsWritten : Result (Reply Fraction) Fault → DmcTags → DmcTags → Type 0
TagsWritten (Ok (Tagged tags)) old new = IsTags tags new
TagsWritten answer old new = new ≡ old

-- ---- pulls

abbrev pub phase_number : PhaseType → ℕ
phase_number Reservation = 0
phase_number Priority = 1

abbrev pub nothing : DmcPulled
nothing = record { kind = 2; client = 0; token = 0; phase = 0; cost = 0; beyond = false; due_low = 0; due_high = 0 }

abbrev pub granted : ClientId → Token → PhaseType → Bool → ℕ → DmcPulled
granted client token phase beyond cost = record nothing { kind = 0; client = client.0; token = token.0; phase = phase_number phase; cost = cost; beyond = beyond }

-- nothing is due before this moment
abbrev pub future : ℕ → DmcPulled
future due = record nothing { kind = 1; due_low = due % 2 ^ 64; due_high = due / 2 ^ 64 }

abbrev pub pulled_written : Result (Reply Fraction) Fault → DmcPulled → DmcPulled
pulled_written (Ok (Granted client token phase beyond cost)) old = granted client token phase beyond cost
pulled_written (Ok (Later due)) old = future due
pulled_written (Ok Nothing) old = nothing
pulled_written answer old = old

-- ---- counts

abbrev pub removed_written : Result (Reply Fraction) Fault → ℕ → ℕ
removed_written (Ok (Removed count)) old = count
removed_written answer old = old

abbrev pub idled_written : Result (Reply Fraction) Fault → ℕ → ℕ
idled_written (Ok (Cleaned idled erased)) old = idled
idled_written answer old = old

abbrev pub erased_written : Result (Reply Fraction) Fault → ℕ → ℕ
erased_written (Ok (Cleaned idled erased)) old = erased
erased_written answer old = old

abbrev pub clients_written : Result (ℕ × ℕ) Fault → ℕ → ℕ
clients_written (Ok counts) old = counts.0
clients_written (Err fault) old = old

abbrev pub requests_written : Result (ℕ × ℕ) Fault → ℕ → ℕ
requests_written (Ok counts) old = counts.1
requests_written (Err fault) old = old

-- the value that a call returned, or what was there
abbrev pub value_or_old : {X : Type 0} → Result X Fault → X → X
value_or_old (Ok x) old = x
value_or_old (Err fault) old = old

-- ---- trackers

abbrev pub stamp_of : Params → DmcStamp
stamp_of params = record { delta = params.delta; rho = params.rho; cost = params.cost }

abbrev pub stamp_written : Result Params Fault → DmcStamp → DmcStamp
stamp_written (Ok params) old = stamp_of params
stamp_written (Err fault) old = old

-- what a tracker knows of a server
abbrev pub track_of : Numbers → ServerNumbers → DmcTrack
track_of tracker server = record {
  pending_delta = server.pending.delta;
  pending_rho = server.pending.rho;
  sent_delta = server.sent.delta;
  sent_rho = server.sent.rho;
  completions = tracker.completions.delta;
  reservation = tracker.completions.rho;
}

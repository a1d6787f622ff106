-- What numbers from C say. The values are judged in the order moment, params, cost, rate.
use Rattle.std.specs.Prelude.{ℕ, ◌==◌, ◌&&◌, Option, Some, None, Result, Ok, Err, nat_lt, nat_le, if◌then◌else◌}
use Rattle.dmc_types.specs.Limits.{max_count, max_hz, max_moment}
use Rattle.dmc_types.specs.Values.{Params, Rates, Setting, threshold_of, with_returned}
use Rattle.dmc_types.specs.declared.ids.ClientId.{ClientId}
use Rattle.dmc_types.specs.declared.config.AtLimit.{AtLimit}
use Rattle.dmc_types.specs.declared.config.AtLimit.TheVariants.{Wait, Allow, Reject}
use Rattle.dmc_types.specs.declared.config.Counting.{Counting}
use Rattle.dmc_types.specs.declared.config.Counting.TheVariants.{All, Others}
use Rattle.dmc_types.specs.declared.config.PhaseType.{PhaseType}
use Rattle.dmc_types.specs.declared.config.PhaseType.TheVariants.{Reservation, Priority}
use Rattle.dmc_types.specs.declared.config.Shares.{Shares}
use Rattle.dmc_types.specs.declared.config.Shares.TheVariants.{Clock, Virtual}
use Rattle.dmc_types.specs.declared.config.TagKind.{TagKind}
use Rattle.dmc_types.specs.declared.config.TagKind.TheVariants.{Tick, Ratio}
use Rattle.dmc_types.specs.declared.refusal.ValueFault.TheVariants as faults
use Rattle.dmc_types.specs.declared.command.Command.{Command}
use Rattle.dmc_types.specs.declared.command.Command.TheVariants as commands
use Rattle.dmc_tag.specs.Outcome.{◌>>=◌}
use Rattle.dmc_c.specs.declared.fault.Fault.{Fault}
use Rattle.dmc_tracker.specs.declared.tracker.TrackFault.TheVariants as tracks
use Rattle.dmc_c.specs.declared.fault.Fault.TheVariants.{Value, Phase, Track}
use Rattle.dmc_c.specs.declared.outputs.DmcStamp.{DmcStamp}
use Rattle.dmc_c.specs.declared.reading.DmcConfig.{DmcConfig}
use Rattle.dmc_c.specs.declared.reading.Grant.{Grant}

-- ---- values

unfoldable pub moment : ℕ → Result ℕ Fault
moment at = if nat_le at max_moment then Ok at else Err (Value faults.Moment)

unfoldable pub params : ℕ → ℕ → Result Params Fault
params delta rho = if nat_le rho delta then Ok (record { delta = delta; rho = rho; cost = 1 }) else Err (Value faults.Params)

unfoldable pub cost : ℕ → Result ℕ Fault
cost units = if nat_lt 0 units then Ok units else Err (Value faults.Cost)

-- both counts of a stamp and the cost of its request
abbrev pub stamp_in : (delta rho units : ℕ) → Result Params Fault
stamp_in delta rho units = do
  stamp ← params delta rho
  charge ← cost units
  Ok (record stamp { cost = charge })

-- a rate of 0 is none
abbrev pub rate_of : ℕ → Option ℕ
rate_of rate = if rate == 0 then None else Some rate

unfoldable pub rates : ℕ → ℕ → ℕ → Result Rates Fault
rates reservation weight limit =
    if nat_lt 0 weight then Ok (record { reservation = rate_of reservation; weight = weight; limit = rate_of limit })
    else Err (Value faults.Rate)

abbrev pub counting : ℕ → Result Counting Fault
counting n = if n == 0 then Ok All else (if n == 1 then Ok Others else Err (Value faults.Config))

-- ---- commands

abbrev pub with_info : (ClientId → Rates → ℕ → Command) → (client reservation weight limit at : ℕ) → Result Command Fault
with_info make client reservation weight limit at = do
  t ← moment at
  info ← rates reservation weight limit
  Ok (make (record { 0 = client }) info t)

abbrev pub register_command : (client reservation weight limit at : ℕ) → Result Command Fault
register_command = with_info commands.Register

abbrev pub update_command : (client reservation weight limit at : ℕ) → Result Command Fault
update_command = with_info commands.Update

abbrev pub add_command : (client token delta rho units at : ℕ) → Result Command Fault
add_command client token delta rho units at = do
  t ← moment at
  stamp ← stamp_in delta rho units
  Ok (commands.Add (record { 0 = client }) (record { 0 = token }) stamp t)

abbrev pub pull_command : ℕ → Result Command Fault
pull_command at = moment at >>= λ t. Ok (commands.Pull t)

abbrev pub remove_command : ℕ → Result Command Fault
remove_command client = Ok (commands.Remove (record { 0 = client }))

abbrev pub cancel_command : (client token number : ℕ) → Result Command Fault
cancel_command client token number = counting number >>= λ form. Ok (commands.Cancel (record { 0 = client }) (record { 0 = token }) form)

abbrev pub clean_command : ℕ → Result Command Fault
clean_command at = moment at >>= λ t. Ok (commands.Clean t)

-- ---- settings

abbrev pub tag_kind : ℕ → Result TagKind Fault
tag_kind n = if n == 0 then Ok Tick else (if n == 1 then Ok Ratio else Err (Value faults.Config))

-- a threshold of a setting that has none is 0
abbrev pub at_limit : (number threshold : ℕ) → Result AtLimit Fault
at_limit n threshold =
    if n == 2 then Ok (Reject threshold)
    else (if threshold == 0 then (if n == 0 then Ok Wait else (if n == 1 then Ok Allow else Err (Value faults.Config))) else Err (Value faults.Config))

abbrev pub shares : ℕ → Result Shares Fault
shares n = if n == 0 then Ok Clock else (if n == 1 then Ok Virtual else Err (Value faults.Config))

-- the limits of a configuration
unfoldable pub setting : (hz idle_age erase_age : ℕ) → AtLimit → Shares → Result Setting Fault
setting hz idle_age erase_age limit share =
    if nat_lt 0 hz && nat_le hz max_hz && nat_lt 0 idle_age && nat_le idle_age erase_age && nat_le erase_age max_moment && nat_le (threshold_of limit) max_moment
    then Ok (record { hz = hz; idle_age = idle_age; erase_age = erase_age; at_limit = limit; shares = share })
    else Err (Value faults.Config)

abbrev pub config_of : DmcConfig → Result Setting Fault
config_of asked = do
  past ← at_limit asked.at_limit asked.threshold
  share ← shares asked.shares
  setting asked.hz asked.idle_age asked.erase_age past share

abbrev pub phase : ℕ → Result PhaseType Fault
phase n = if n == 0 then Ok Reservation else (if n == 1 then Ok Priority else Err Phase)

-- ---- stamps and responses

-- the grant that two numbers name
abbrev pub grant_named : (number units : ℕ) → Result Grant Fault
grant_named number units = do
  given ← phase number
  charge ← cost units
  Ok (record { phase = given; cost = charge })

-- a delta that no stamp may carry is refused
abbrev pub within_count : Params → Result Params Fault
within_count params = if nat_le params.delta max_count then Ok params else Err (Track tracks.TrackFull)

-- a stamp with the counts of another one, which no server took
abbrev pub returned_into : (stamp returned : DmcStamp) → (number : ℕ) → Result Params Fault
returned_into stamp returned number = do
  form ← counting number
  params ← stamp_in stamp.delta stamp.rho stamp.cost
  other ← stamp_in returned.delta returned.rho returned.cost
  within_count (with_returned form other params)

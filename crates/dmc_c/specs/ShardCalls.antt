-- What each call of the header on shards does. In each, answer is what the call returns: a value or the fault.
use Rattle.std.specs.Prelude.{◌≡◌, ℕ, ◌≤◌, ◌<◌, ⊤, List, [], ◌∷◌, ◌++◌, length, Option, Some, None, Result, Ok, Err, nat_lt, nat_le, ◌&&◌, if◌then◌else◌, slice_get}
use Rattle.std.specs.Option.{option_map, ok_or}
use Rattle.dmc_types.specs.Limits.{max_completions, max_servers}
use Rattle.dmc_types.specs.Values.{Params}
use Rattle.dmc_types.specs.declared.ids.ServerId.{ServerId}
use Rattle.dmc_tracker.specs.declared.tracker.TrackFault.TheVariants as tracks
use Rattle.dmc_shards.specs.declared.call.ShardCall.{ShardCall}
use Rattle.dmc_shards.specs.declared.call.ShardCall.TheVariants.{Arrive, GiveBack, Skip}
use Rattle.dmc_shards.specs.declared.status.ShardStatus.{ShardStatus}
use Rattle.dmc_shards.specs.CallList.{demanded}
use Rattle.dmc_shards.specs.ShardNumbers.{Numbers, new_numbers, next_params, after_arrival, after_give_back, after_skip, IsFullAt, IsNotSentAt, RepresentsCalls}
use Rattle.dmc_c.specs.declared.fault.Fault.{Fault}
use Rattle.dmc_c.specs.declared.fault.Fault.TheVariants as faults
use Rattle.dmc_c.specs.declared.kept.Kept.{Kept}
use Rattle.dmc_c.specs.declared.kept.Kept.TheVariants.{Queue, Tracker, Shards}
use Rattle.dmc_c.specs.declared.outputs.DmcTrack.{DmcTrack}
use Rattle.dmc_c.specs.Calls.{AtHandle}

-- A queue or a tracker is no shard tracker: the call is refused, and changes nothing.
abbrev pub AtShards : {X : Type 0} → (Numbers → Numbers → Result X Fault → Type 0) → Kept → Kept → Result X Fault → Type 0
AtShards Call (Shards old) (Shards new) answer = Call old new answer
AtShards Call (Shards old) (Queue new) answer = ⊥
AtShards Call (Shards old) (Tracker new) answer = ⊥
AtShards Call (Queue old) new answer = (answer ≡ Err faults.NoneHeld) × (new ≡ Queue old)
AtShards Call (Tracker old) new answer = (answer ≡ Err faults.NoneHeld) × (new ≡ Tracker old)

-- The stamp for a shard carries what the list of calls demands, and the arrival becomes one of it.
pub record HasArrived (s : ServerId) (came : Params) (old new : Numbers) (params : Params) : Type 0 where
  pub within : s.0 < length old.shards
  pub not_full : IsFullAt old s came → ⊥
  pub carries : params ≡ next_params old s came
  pub after : new ≡ after_arrival s came old
  pub represents : (calls : List ShardCall) → RepresentsCalls old calls → (params ≡ demanded s came calls) × RepresentsCalls new (calls ++ Arrive s came ∷ [])

-- what an arrival would be stamped with; the list stays
pub record IsNext (s : ServerId) (came : Params) (shards : Numbers) (params : Params) : Type 0 where
  pub within : s.0 < length shards.shards
  pub not_full : IsFullAt shards s came → ⊥
  pub carries : params ≡ next_params shards s came
  pub demanded : (calls : List ShardCall) → RepresentsCalls shards calls → params ≡ demanded s came calls

abbrev pub Nexts : ServerId → Result Params Fault → Numbers → Numbers → Result Params Fault → Type 0
Nexts s (Err fault) old new answer = (answer ≡ Err fault) × (new ≡ old)
Nexts s (Ok came) old new (Ok params) = IsNext s came old params × (new ≡ old)
Nexts s (Ok came) old new (Err (faults.Track tracks.NoServer)) = (length old.shards ≤ s.0) × (new ≡ old)
Nexts s (Ok came) old new (Err (faults.Track tracks.TrackFull)) = IsFullAt old s came × (new ≡ old)
Nexts s (Ok came) old new (Err fault) = ⊥

-- Numbers that are no stamp change nothing. Else it is the one call of the shard tracker.
abbrev pub Arrives : ServerId → Result Params Fault → Numbers → Numbers → Result Params Fault → Type 0
Arrives s (Err fault) old new answer = (answer ≡ Err fault) × (new ≡ old)
Arrives s (Ok came) old new (Ok params) = HasArrived s came old new params
Arrives s (Ok came) old new (Err (faults.Track tracks.NoServer)) = (length old.shards ≤ s.0) × (new ≡ old)
Arrives s (Ok came) old new (Err (faults.Track tracks.TrackFull)) = IsFullAt old s came × (new ≡ old)
Arrives s (Ok came) old new (Err fault) = ⊥

-- What is given back becomes a call of the list.
pub record IsGivenBack (s : ServerId) (params : Params) (old new : Numbers) : Type 0 where
  pub within : s.0 < length old.shards
  pub was_sent : IsNotSentAt old s params → ⊥
  pub after : new ≡ after_give_back s params old
  pub represents : (calls : List ShardCall) → RepresentsCalls old calls → RepresentsCalls new (calls ++ GiveBack s params ∷ [])

abbrev pub GivesBack : ServerId → Result Params Fault → Numbers → Numbers → Result ⊤ Fault → Type 0
GivesBack s (Err fault) old new answer = (answer ≡ Err fault) × (new ≡ old)
GivesBack s (Ok params) old new (Ok done) = IsGivenBack s params old new
GivesBack s (Ok params) old new (Err (faults.Track tracks.NoServer)) = (length old.shards ≤ s.0) × (new ≡ old)
GivesBack s (Ok params) old new (Err faults.NotSent) = IsNotSentAt old s params × (new ≡ old)
GivesBack s (Ok params) old new (Err fault) = ⊥

-- The skip becomes a call of the list.
pub record HasSkipped (s : ServerId) (old new : Numbers) : Type 0 where
  pub within : s.0 < length old.shards
  pub after : new ≡ after_skip s old
  pub represents : (calls : List ShardCall) → RepresentsCalls old calls → RepresentsCalls new (calls ++ Skip s ∷ [])

abbrev pub SkipsShard : ServerId → Numbers → Numbers → Result ⊤ Fault → Type 0
SkipsShard s old new (Ok done) = HasSkipped s old new
SkipsShard s old new (Err (faults.Track tracks.NoServer)) = (length old.shards ≤ s.0) × (new ≡ old)
SkipsShard s old new (Err fault) = ⊥

-- at a shard tracker that C holds
abbrev pub ArrivesHeld : ServerId → Result Params Fault → Option Kept → Option Kept → Result Params Fault → Type 0
ArrivesHeld s params = AtHandle (AtShards (Arrives s params))

abbrev pub NextsHeld : ServerId → Result Params Fault → Option Kept → Option Kept → Result Params Fault → Type 0
NextsHeld s params = AtHandle (AtShards (Nexts s params))

abbrev pub GivesBackHeld : ServerId → Result Params Fault → Option Kept → Option Kept → Result ⊤ Fault → Type 0
GivesBackHeld s params = AtHandle (AtShards (GivesBack s params))

abbrev pub SkipsShardHeld : ServerId → Option Kept → Option Kept → Result ⊤ Fault → Type 0
SkipsShardHeld s = AtHandle (AtShards (SkipsShard s))

-- what a shard tracker reports of a shard; what came in are its completions
abbrev pub shard_track : Numbers → ShardStatus → DmcTrack
shard_track shards shard = record {
  pending_delta = shard.pending.delta;
  pending_rho = shard.pending.rho;
  sent_delta = shard.sent.delta;
  sent_rho = shard.sent.rho;
  completions = shards.came.delta;
  reservation = shards.came.rho;
}

abbrev pub shard_at : ServerId → Kept → Result DmcTrack Fault
shard_at s (Queue queue) = Err faults.NoneHeld
shard_at s (Tracker tracker) = Err faults.NoneHeld
shard_at s (Shards shards) = ok_or (option_map (shard_track shards) (slice_get shards.shards s.0)) (faults.Track tracks.NoServer)

abbrev pub shard_held : ServerId → Option Kept → Result DmcTrack Fault
shard_held s None = Err faults.NoneHeld
shard_held s (Some kept) = shard_at s kept

-- the numbers of a new shard tracker
unfoldable pub new_shards : (shards most : ℕ) → Result Numbers Fault
new_shards shards most =
    if nat_lt 0 shards && nat_le shards max_servers && nat_lt 0 most && nat_le most max_completions then Ok (new_numbers most shards) else Err faults.Limit

abbrev pub shards_opened : Result Numbers Fault → Result Kept Fault
shards_opened (Ok shards) = Ok (Shards shards)
shards_opened (Err fault) = Err fault

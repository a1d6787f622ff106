-- What each call of the header does. In each, answer is what the call returns: a value or the fault.
use Rattle.std.specs.Prelude.{◌≡◌, ℕ, ◌+◌, ◌<◌, ◌≤◌, ⊤, List, [], ◌∷◌, ◌++◌, length, Option, Some, None, Result, Ok, Err, nat_lt, nat_le, ◌&&◌, if◌then◌else◌, slice_get}
use Rattle.std.specs.Option.{option_map, ok_or}
use Rattle.dmc_types.specs.Limits.{max_completions, max_servers}
use Rattle.dmc_types.specs.Values.{Params}
use Rattle.dmc_types.specs.declared.ids.ServerId.{ServerId}
use Rattle.dmc_types.specs.declared.config.Counting.{Counting}
use Rattle.dmc_types.specs.declared.command.Command.{Command}
use Rattle.dmc_tag.specs.Outcome.{◌>>=◌}
use Rattle.dmc_tag.specs.Tag.{Fraction}
use Rattle.dmc_tag.specs.declared.reply.Reply.{Reply}
use Rattle.dmc_any_queue.specs.AnyState.{AnyState, opening_with, clients_in, requests_in, AnySteps}
use Rattle.dmc_tracker.specs.declared.event.TrackerEvent.{TrackerEvent}
use Rattle.dmc_tracker.specs.declared.event.TrackerEvent.TheVariants.{Stamp, Skip, Response}
use Rattle.dmc_tracker.specs.declared.tracker.TrackFault.TheVariants as tracks
use Rattle.dmc_tracker.specs.TrackerList.{demanded}
use Rattle.dmc_tracker.specs.Numbers.{Numbers, new_numbers, next_params, after_stamp, after_skip, after_response, IsCompleteAt, IsFullAt, RepresentsEvents}
use Rattle.dmc_c.specs.declared.fault.Fault.{Fault}
use Rattle.dmc_c.specs.declared.fault.Fault.TheVariants as faults
use Rattle.dmc_c.specs.declared.kept.Kept.{Kept}
use Rattle.dmc_c.specs.declared.kept.Kept.TheVariants.{Queue, Tracker, Shards}
use Rattle.dmc_c.specs.declared.outputs.DmcTrack.{DmcTrack}
use Rattle.dmc_c.specs.declared.reading.DmcConfig.{DmcConfig}
use Rattle.dmc_c.specs.declared.reading.Grant.{Grant}
use Rattle.dmc_c.specs.Reading.{tag_kind, config_of, counting}
use Rattle.dmc_c.specs.Outputs.{track_of}

-- ---- what is held

-- Nothing is held: the call is refused. Else it is the call at what is held.
abbrev pub AtHandle : {X : Type 0} → (Kept → Kept → Result X Fault → Type 0) → Option Kept → Option Kept → Result X Fault → Type 0
AtHandle Call None new answer = (answer ≡ Err faults.NoneHeld) × (new ≡ None)
AtHandle Call (Some old) (Some new) answer = Call old new answer
AtHandle Call (Some old) None answer = ⊥

-- A tracker or a shard tracker is no queue: the call is refused, and changes nothing.
abbrev pub AtQueue : {X : Type 0} → (AnyState → AnyState → Result X Fault → Type 0) → Kept → Kept → Result X Fault → Type 0
AtQueue Call (Queue old) (Queue new) answer = Call old new answer
AtQueue Call (Queue old) (Tracker new) answer = ⊥
AtQueue Call (Queue old) (Shards new) answer = ⊥
AtQueue Call (Tracker old) new answer = (answer ≡ Err faults.NoneHeld) × (new ≡ Tracker old)
AtQueue Call (Shards old) new answer = (answer ≡ Err faults.NoneHeld) × (new ≡ Shards old)

-- A queue or a shard tracker is no tracker: the call is refused, and changes nothing.
abbrev pub AtTracker : {X : Type 0} → (Numbers → Numbers → Result X Fault → Type 0) → Kept → Kept → Result X Fault → Type 0
AtTracker Call (Tracker old) (Tracker new) answer = Call old new answer
AtTracker Call (Tracker old) (Queue new) answer = ⊥
AtTracker Call (Tracker old) (Shards new) answer = ⊥
AtTracker Call (Queue old) new answer = (answer ≡ Err faults.NoneHeld) × (new ≡ Queue old)
AtTracker Call (Shards old) new answer = (answer ≡ Err faults.NoneHeld) × (new ≡ Shards old)

-- ---- queues

-- A value out of its limits changes nothing. Else the command is the one call of the queue: a step of the rules, or a
-- failed allocation.
abbrev pub Asks : Result Command Fault → AnyState → AnyState → Result (Reply Fraction) Fault → Type 0
Asks (Err fault) old new answer = (answer ≡ Err fault) × (new ≡ old)
Asks (Ok command) old new (Ok reply) = AnySteps old new command (Some reply)
Asks (Ok command) old new (Err faults.Memory) = AnySteps old new command None
Asks (Ok command) old new (Err fault) = ⊥

-- a command at a queue that C holds
abbrev pub AsksHeld : Result Command Fault → Option Kept → Option Kept → Result (Reply Fraction) Fault → Type 0
AsksHeld command = AtHandle (AtQueue (Asks command))

-- how many clients are registered and how many requests are queued
abbrev pub counts_of : Kept → Result (ℕ × ℕ) Fault
counts_of (Queue queue) = Ok (clients_in queue, requests_in queue)
counts_of (Tracker tracker) = Err faults.NoneHeld
counts_of (Shards shards) = Err faults.NoneHeld

abbrev pub counts_held : Option Kept → Result (ℕ × ℕ) Fault
counts_held None = Err faults.NoneHeld
counts_held (Some kept) = counts_of kept

-- ---- trackers

-- The stamp to a server carries what the tracker's list demands, and becomes an entry of it.
pub record IsStamped (s : ServerId) (cost : ℕ) (old new : Numbers) (params : Params) : Type 0 where
  pub within : s.0 < length old.servers
  pub not_full : IsFullAt old s cost → ⊥
  pub carries : params ≡ next_params old s cost
  pub after : new ≡ after_stamp s cost old
  pub represents : (events : List TrackerEvent) → RepresentsEvents old events → (params ≡ demanded old.counting s cost events) × RepresentsEvents new (events ++ Stamp s params ∷ [])

-- A number that is no cost changes nothing. Else it is the one call of the tracker.
abbrev pub Stamps : ServerId → Result ℕ Fault → Numbers → Numbers → Result Params Fault → Type 0
Stamps s (Err fault) old new answer = (answer ≡ Err fault) × (new ≡ old)
Stamps s (Ok cost) old new (Ok params) = IsStamped s cost old new params
Stamps s (Ok cost) old new (Err (faults.Track tracks.NoServer)) = (length old.servers ≤ s.0) × (new ≡ old)
Stamps s (Ok cost) old new (Err (faults.Track tracks.TrackFull)) = IsFullAt old s cost × (new ≡ old)
Stamps s (Ok cost) old new (Err fault) = ⊥

-- The skip becomes an entry of the tracker's list.
pub record IsSkipped (s : ServerId) (old new : Numbers) : Type 0 where
  pub within : s.0 < length old.servers
  pub after : new ≡ after_skip s old
  pub represents : (events : List TrackerEvent) → RepresentsEvents old events → RepresentsEvents new (events ++ Skip s ∷ [])

abbrev pub Skips : ServerId → Numbers → Numbers → Result ⊤ Fault → Type 0
Skips s old new (Ok done) = IsSkipped s old new
Skips s old new (Err (faults.Track tracks.NoServer)) = (length old.servers ≤ s.0) × (new ≡ old)
Skips s old new (Err fault) = ⊥

-- The response becomes an entry of the tracker's list.
pub record IsCounted (s : ServerId) (grant : Grant) (old new : Numbers) : Type 0 where
  pub within : s.0 < length old.servers
  pub not_full : old.completions.delta + grant.cost ≤ old.most
  pub after : new ≡ after_response s grant.phase grant.cost old
  pub represents : (events : List TrackerEvent) → RepresentsEvents old events → RepresentsEvents new (events ++ Response s grant.phase grant.cost ∷ [])

-- Numbers that name no grant change nothing. Else it is the one call of the tracker.
abbrev pub Responds : ServerId → Result Grant Fault → Numbers → Numbers → Result ⊤ Fault → Type 0
Responds s (Err fault) old new answer = (answer ≡ Err fault) × (new ≡ old)
Responds s (Ok grant) old new (Ok done) = IsCounted s grant old new
Responds s (Ok grant) old new (Err (faults.Track tracks.NoServer)) = (length old.servers ≤ s.0) × (new ≡ old)
Responds s (Ok grant) old new (Err (faults.Track tracks.TrackFull)) = IsCompleteAt old s grant.cost × (new ≡ old)
Responds s (Ok grant) old new (Err fault) = ⊥

-- a stamp, a skip and a response at a tracker that C holds
abbrev pub StampsHeld : ServerId → Result ℕ Fault → Option Kept → Option Kept → Result Params Fault → Type 0
StampsHeld s cost = AtHandle (AtTracker (Stamps s cost))

abbrev pub SkipsHeld : ServerId → Option Kept → Option Kept → Result ⊤ Fault → Type 0
SkipsHeld s = AtHandle (AtTracker (Skips s))

abbrev pub RespondsHeld : ServerId → Result Grant Fault → Option Kept → Option Kept → Result ⊤ Fault → Type 0
RespondsHeld s grant = AtHandle (AtTracker (Responds s grant))

-- what a tracker reports of a server
abbrev pub track_at : ServerId → Kept → Result DmcTrack Fault
track_at s (Queue queue) = Err faults.NoneHeld
track_at s (Shards shards) = Err faults.NoneHeld
track_at s (Tracker tracker) = ok_or (option_map (track_of tracker) (slice_get tracker.servers s.0)) (faults.Track tracks.NoServer)

abbrev pub track_held : ServerId → Option Kept → Result DmcTrack Fault
track_held s None = Err faults.NoneHeld
track_held s (Some kept) = track_at s kept

-- ---- new queues and trackers

-- the opening state of a queue
abbrev pub new_queue : DmcConfig → Result AnyState Fault
new_queue asked = do
  kind ← tag_kind asked.tag_kind
  config ← config_of asked
  Ok (opening_with kind config)

-- the numbers of a tracker's empty list
unfoldable pub tracker_of : Counting → (servers most : ℕ) → Result Numbers Fault
tracker_of form servers most =
    if nat_lt 0 servers && nat_le servers max_servers && nat_lt 0 most && nat_le most max_completions then Ok (new_numbers form most servers) else Err faults.Limit

abbrev pub new_tracker : (servers most form : ℕ) → Result Numbers Fault
new_tracker servers most form = counting form >>= λ count. tracker_of count servers most

-- what is made, if its values are within their limits, or a failed allocation
abbrev pub Makes : {X : Type 0} → Result X Fault → Result X Fault → Type 0
Makes (Err fault) answer = answer ≡ Err fault
Makes (Ok x) (Ok made) = made ≡ x
Makes (Ok x) (Err faults.Memory) = ⊤
Makes (Ok x) (Err fault) = ⊥

abbrev pub vacancy : Option Kept → Result ⊤ Fault
vacancy None = Ok tt
vacancy (Some kept) = Err faults.Held

abbrev pub queue_opened : Result AnyState Fault → Result Kept Fault
queue_opened (Ok queue) = Ok (Queue queue)
queue_opened (Err fault) = Err fault

abbrev pub tracker_opened : Result Numbers Fault → Result Kept Fault
tracker_opened (Ok tracker) = Ok (Tracker tracker)
tracker_opened (Err fault) = Err fault

-- Something is held: the call is refused. Else it holds what is made.
abbrev pub Opens : Result Kept Fault → Option Kept → Option Kept → Result ⊤ Fault → Type 0
Opens opened (Some kept) new answer = (answer ≡ Err faults.Held) × (new ≡ Some kept)
Opens (Err fault) None new answer = (answer ≡ Err fault) × (new ≡ None)
Opens (Ok kept) None new (Ok done) = new ≡ Some kept
Opens (Ok kept) None new (Err faults.Memory) = new ≡ None
Opens (Ok kept) None new (Err fault) = ⊥

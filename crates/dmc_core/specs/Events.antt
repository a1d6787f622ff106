-- What each event makes of a cluster run, and its reply. A refused event changes nothing.
use Rattle.std.specs.Prelude.{ℕ, ◌+◌, Bool, ◌||◌, not, ◌==◌, nat_le, nat_lt, List, [], ◌∷◌, ◌++◌, length, map, drop, replicate, slice_get, Result, Ok, Err}
use Rattle.std.specs.List.{list_any}
use Rattle.std.specs.Option.{ok_or}
use Rattle.dmc_types.specs.Limits.{max_count}
use Rattle.dmc_types.specs.Values.{Rates, Setting}
use Rattle.dmc_types.specs.declared.ids.ClientId.{ClientId}
use Rattle.dmc_types.specs.declared.ids.ServerId.{ServerId}
use Rattle.dmc_types.specs.declared.ids.Token.{Token}
use Rattle.dmc_types.specs.declared.config.Counting.{Counting}
use Rattle.dmc_types.specs.declared.config.Counting.TheVariants.{All, Others}
use Rattle.dmc_types.specs.declared.config.PhaseType.{PhaseType}
use Rattle.dmc_types.specs.declared.command.Command.{Command}
use Rattle.dmc_types.specs.declared.command.Command.TheVariants as commands
use Rattle.dmc_tag.specs.Tag.{Tagging}
use Rattle.dmc_tag.specs.State.{opening}
use Rattle.dmc_tag.specs.Outcome.{◌>>=◌, refuse_if}
use Rattle.dmc_tag.specs.Step.{step}
use Rattle.dmc_tag.specs.Replay.{state_after}
use Rattle.dmc_tag.specs.declared.reply.Reply.{Reply}
use Rattle.dmc_tag.specs.declared.reply.Reply.TheVariants.{Tagged, Granted}
use Rattle.dmc_tracker.specs.declared.event.TrackerEvent.{TrackerEvent}
use Rattle.dmc_tracker.specs.declared.event.TrackerEvent.TheVariants as entries
use Rattle.dmc_tracker.specs.TrackerList.{completions, demanded, sent}
use Rattle.dmc_core.specs.declared.event.Message.{Message}
use Rattle.dmc_core.specs.declared.event.CoreEvent.{CoreEvent}
use Rattle.dmc_core.specs.declared.event.CoreEvent.TheVariants.{Stamp, Arrive, Pull, Respond, Update, Remove, Cancel, Clean}
use Rattle.dmc_core.specs.declared.event.CoreReply.{CoreReply}
use Rattle.dmc_core.specs.declared.event.CoreReply.TheVariants.{Stamped, Served, Counted}
use Rattle.dmc_core.specs.declared.event.CoreFault.{CoreFault}
use Rattle.dmc_core.specs.declared.event.CoreFault.TheVariants.{FlightFull, TrackFull, NoFlight, GrantsFull, NoGrant}
use Rattle.dmc_core.specs.Run.{Pair, Client, Run, max_completions, max_in_flight, no_pair, pair_at, with_pair, with_flight, grants, with_grants, without_first, change_client, with_client, with_server, client_of, server_of, are_grants_full}

-- a run and the reply to an event, or its refusal
abbrev pub Outcome : Type 0 → Type 0
Outcome T = Result (Run T × CoreReply T) CoreFault

-- an event of a client at a server, by a rule over the client
abbrev pub client_event : {T : Type 0} → Run T → ClientId → ServerId → (Client → Result (Client × CoreReply T) CoreFault) → Outcome T
client_event run id s rule = do
  client ← client_of run id
  _ ← server_of run s
  (next, reply) ← rule client
  Ok (with_client id next run, reply)

-- a command to the queue of a server
abbrev pub server_event : {T : Type 0} → Tagging T → Run T → ServerId → Command → Outcome T
server_event ops run s command = do
  state ← server_of run s
  (next, reply) ← Ok (step ops state command)
  Ok (with_server s next run, Served reply)

-- ---- Stamp: the tracker's params are taken, and the message is the last in flight

-- The delta of the stamp of a request of this cost is past the greatest count, or, in `Others`, would take what was sent to s past
-- the most.
abbrev pub is_stamp_full : Counting → ServerId → ℕ → List TrackerEvent → Bool
is_stamp_full All s cost list = nat_lt max_count (demanded All s cost list).delta
is_stamp_full Others s cost list = nat_lt max_count (demanded Others s cost list).delta
    || nat_lt max_completions ((sent s list).delta + (demanded Others s cost list).delta)

abbrev pub after_stamp : ServerId → Message → Client → Client
after_stamp s message client = record client {
  list = client.list ++ entries.Stamp s message.params ∷ [];
  pairs = with_pair s (with_flight ((pair_at s client.pairs).flight ++ message ∷ []) (pair_at s client.pairs)) client.pairs;
}

abbrev pub stamp : {T : Type 0} → Counting → ServerId → Token → ℕ → Client → Result (Client × CoreReply T) CoreFault
stamp counting s token cost client = do
  _ ← refuse_if (nat_le max_in_flight (length (pair_at s client.pairs).flight)) FlightFull
  _ ← refuse_if (is_stamp_full counting s cost client.list) TrackFull
  params ← Ok (demanded counting s cost client.list)
  Ok (after_stamp s (record { token = token; params = params }) client, Stamped params)

-- ---- Arrive: the oldest message goes to the queue; if that refuses it, it stays the oldest in flight

abbrev pub after_arrival : {T : Type 0} → Reply T → Pair → Pair
after_arrival (Tagged tags) pair = with_flight (drop 1 pair.flight) pair
after_arrival reply pair = pair

abbrev pub client_after_arrival : {T : Type 0} → ServerId → Reply T → Client → Client
client_after_arrival s reply client = record client { pairs = with_pair s (after_arrival reply (pair_at s client.pairs)) client.pairs }

abbrev pub arrival : {T : Type 0} → Tagging T → Run T → ClientId → ServerId → ℕ → Outcome T
arrival ops run id s at = do
  client ← client_of run id
  state ← server_of run s
  message ← ok_or (slice_get (pair_at s client.pairs).flight 0) NoFlight
  (next, reply) ← Ok (step ops state (commands.Add id message.token message.params at))
  Ok (with_client id (client_after_arrival s reply client) (with_server s next run), Served reply)

-- ---- Pull: a grant waits for its response, behind those of its pair and phase

abbrev pub after_grant : ServerId → PhaseType → ℕ → Client → Client
after_grant s phase cost client = record client {
  pairs = with_pair s (with_grants phase (grants phase (pair_at s client.pairs) ++ cost ∷ []) (pair_at s client.pairs)) client.pairs;
}

abbrev pub after_pull : {T : Type 0} → ServerId → Reply T → Run T → Run T
after_pull s (Granted client token phase beyond cost) run = change_client client (after_grant s phase cost) run
after_pull s reply run = run

abbrev pub pull : {T : Type 0} → Tagging T → Run T → ServerId → ℕ → Outcome T
pull ops run s at = do
  state ← server_of run s
  _ ← refuse_if (are_grants_full s run.clients) GrantsFull
  (next, reply) ← Ok (step ops state (commands.Pull at))
  Ok (after_pull s reply (with_server s next run), Served reply)

-- ---- Respond: the first grant of this cost no longer waits, and the tracker counts the completion

abbrev pub after_response : ServerId → PhaseType → ℕ → Client → Client
after_response s phase cost client = record client {
  list = client.list ++ entries.Response s phase cost ∷ [];
  pairs = with_pair s (with_grants phase (without_first cost (grants phase (pair_at s client.pairs))) (pair_at s client.pairs)) client.pairs;
}

abbrev pub response : {T : Type 0} → ServerId → PhaseType → ℕ → Client → Result (Client × CoreReply T) CoreFault
response s phase cost client = do
  _ ← refuse_if (not (list_any (λ c. c == cost) (grants phase (pair_at s client.pairs)))) NoGrant
  _ ← refuse_if (nat_lt max_completions ((completions client.list).delta + cost)) TrackFull
  Ok (after_response s phase cost client, Counted)

-- ---- Cancel: the queue takes back the client's requests with the token, by the counting of the client's stamps

abbrev pub cancellation : {T : Type 0} → Tagging T → Run T → ServerId → ClientId → Token → Outcome T
cancellation ops run s id token = do
  _ ← client_of run id
  server_event ops run s (commands.Cancel id token run.counting)

-- ---- one event, and whole runs

abbrev pub outcome : {T : Type 0} → Tagging T → Run T → CoreEvent → Outcome T
outcome ops run (Stamp client server token cost) = client_event run client server (stamp run.counting server token cost)
outcome ops run (Arrive client server at) = arrival ops run client server at
outcome ops run (Pull server at) = pull ops run server at
outcome ops run (Respond client server phase cost) = client_event run client server (response server phase cost)
outcome ops run (Update server client info at) = server_event ops run server (commands.Update client info at)
outcome ops run (Remove server client) = server_event ops run server (commands.Remove client)
outcome ops run (Cancel server client token) = cancellation ops run server client token
outcome ops run (Clean server at) = server_event ops run server (commands.Clean at)

-- the run after an event, and its answer
abbrev pub conclusion : {T : Type 0} → Run T → Outcome T → Run T × Result (CoreReply T) CoreFault
conclusion run (Ok (next, reply)) = (next, Ok reply)
conclusion run (Err fault) = (run, Err fault)

abbrev pub cluster_step : {T : Type 0} → Tagging T → Run T → CoreEvent → Run T × Result (CoreReply T) CoreFault
cluster_step ops run event = conclusion run (outcome ops run event)

abbrev pub registration : ClientId × Rates → Command
registration client = commands.Register client.0 client.1 0

-- Every client registers at every server at moment 0, in the scene's order. No entry is in a tracker's list, nothing in flight.
abbrev pub opening_run : {T : Type 0} → Tagging T → Setting → Counting → ℕ → List (ClientId × Rates) → Run T
opening_run ops config counting servers clients = record {
  counting = counting;
  servers = replicate servers (state_after ops (opening ops config) (map registration clients));
  clients = map (λ c. record { id = c.0; list = []; pairs = replicate servers no_pair }) clients;
}

abbrev pub run_after : {T : Type 0} → Tagging T → Run T → List CoreEvent → Run T
run_after ops run [] = run
run_after ops run (e ∷ es) = run_after ops ((cluster_step ops run e).0) es

-- the answer to each event, in order
abbrev pub answers_of : {T : Type 0} → Tagging T → Run T → List CoreEvent → List (Result (CoreReply T) CoreFault)
answers_of ops run [] = []
answers_of ops run (e ∷ es) = (cluster_step ops run e).1 ∷ answers_of ops ((cluster_step ops run e).0) es

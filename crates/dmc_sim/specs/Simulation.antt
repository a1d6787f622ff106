-- The simulation of a scene over the cluster run of dmc_core: its rounds, event by event.
use Rattle.std.specs.Prelude.{ℕ, zero, suc, ◌+◌, ◌*◌, ◌==◌, ◌&&◌, Bool, true, false, if◌then◌else◌, nat_lt, min, List, [], ◌∷◌, ◌++◌, map, count_by, slice_get, Option, Some, None, Result, Ok, Err}
use Rattle.std.specs.List.{list_all, range_with_len}
use Rattle.dmc_types.specs.Limits.{max_moment}
use Rattle.dmc_types.specs.declared.ids.ClientId.{ClientId}
use Rattle.dmc_types.specs.declared.ids.ServerId.{ServerId}
use Rattle.dmc_types.specs.declared.config.PhaseType.{PhaseType}
use Rattle.dmc_types.specs.declared.config.PhaseType.TheVariants.{Reservation, Priority}
use Rattle.dmc_types.specs.declared.refusal.Refusal.{Refusal}
use Rattle.dmc_tag.specs.Tag.{Tagging}
use Rattle.dmc_tag.specs.State.{is_client}
use Rattle.dmc_tag.specs.Outcome.{◌>>=◌}
use Rattle.dmc_tag.specs.declared.reply.Reply.TheVariants.{Tagged, Granted, Refused}
use Rattle.dmc_work.specs.Plan.{generator, planned, word}
use Rattle.dmc_scene.specs.SceneValue.{SceneValue, ClientValue, cost_at}
use Rattle.dmc_sim.specs.declared.ask.Grant.{Grant}
use Rattle.dmc_core.specs.Run.{Run}
use Rattle.dmc_core.specs.Events.{cluster_step}
use Rattle.dmc_core.specs.Opening.{opening_of}
use Rattle.dmc_core.specs.declared.event.CoreEvent.{CoreEvent}
use Rattle.dmc_core.specs.declared.event.CoreEvent.TheVariants.{Stamp, Arrive, Pull, Respond}
use Rattle.dmc_core.specs.declared.event.CoreReply.{CoreReply}
use Rattle.dmc_core.specs.declared.event.CoreReply.TheVariants.{Served, Counted}
use Rattle.dmc_core.specs.declared.event.CoreFault.{CoreFault}

-- ---- the parts of a simulation

-- what the cluster returns for an event: a reply, or its refusal
abbrev pub Returned : Type 0 → Type 0
Returned T = Result (CoreReply T) CoreFault

-- an event of the cluster, and what it returned
pub record Entry (T : Type 0) : Type 0 where
  pub event : CoreEvent
  pub returned : Returned T

-- a simulation up to now: the cluster, and all events in their order
pub record Sim (T : Type 0) : Type 0 where
  pub run : Run T
  pub trace : List (Entry T)

-- ---- one event

abbrev pub entry_of : {T : Type 0} → Tagging T → CoreEvent → Sim T → Entry T
entry_of ops event sim = record { event = event; returned = (cluster_step ops sim.run event).1 }

abbrev pub after_event : {T : Type 0} → Tagging T → CoreEvent → Sim T → Sim T
after_event ops event sim = record { run = (cluster_step ops sim.run event).0; trace = sim.trace ++ entry_of ops event sim ∷ [] }

-- a queue's refusal ends a simulation; what the cluster refuses is ignored
abbrev pub unless_refused : {T : Type 0} → Returned T → Sim T → Result (Sim T) Refusal
unless_refused (Ok (Served (Refused refusal))) sim = Err refusal
unless_refused returned sim = Ok sim

-- one event: the cluster takes it, and it is added to the trace
abbrev pub asked : {T : Type 0} → Tagging T → CoreEvent → Sim T → Result (Sim T) Refusal
asked ops event sim = unless_refused ((cluster_step ops sim.run event).1) (after_event ops event sim)

-- ---- what a returned value means

-- a request is queued
abbrev pub is_tagged : {T : Type 0} → Returned T → Bool
is_tagged (Ok (Served (Tagged tags))) = true
is_tagged returned = false

-- a completion is counted
abbrev pub is_counted : {T : Type 0} → Returned T → Bool
is_counted (Ok Counted) = true
is_counted returned = false

-- a request is granted
abbrev pub grant_in : {T : Type 0} → Returned T → Option Grant
grant_in (Ok (Served (Granted client token phase beyond cost))) = Some (record { client = client; phase = phase; cost = cost })
grant_in returned = None

-- ---- what a trace counts

abbrev pub is_phase : PhaseType → PhaseType → Bool
is_phase Reservation Reservation = true
is_phase Priority Priority = true
is_phase phase other = false

abbrev pub is_server : ServerId → ServerId → Bool
is_server s other = other.0 == s.0

-- a request of the client arrives, and is queued
abbrev pub is_arrival : {T : Type 0} → ClientId → CoreEvent → Returned T → Bool
is_arrival id (Arrive client server at) returned = is_client id client && is_tagged returned
is_arrival id event returned = false

-- a response of the client is counted
abbrev pub is_completion : {T : Type 0} → ClientId → CoreEvent → Returned T → Bool
is_completion id (Respond client server phase cost) returned = is_client id client && is_counted returned
is_completion id event returned = false

-- a response of the client is counted, and the grant was in the constraint phase
abbrev pub is_reserved : {T : Type 0} → ClientId → CoreEvent → Returned T → Bool
is_reserved id (Respond client server phase cost) returned = (is_client id client && is_counted returned) && is_phase Reservation phase
is_reserved id event returned = false

abbrev pub is_granted_in : PhaseType → Option Grant → Bool
is_granted_in phase (Some grant) = is_phase phase grant.phase
is_granted_in phase None = false

-- the server grants a request in the phase
abbrev pub is_grant : {T : Type 0} → ServerId → PhaseType → CoreEvent → Returned T → Bool
is_grant s phase (Pull server at) returned = is_server s server && is_granted_in phase (grant_in returned)
is_grant s phase event returned = false

-- how many requests the client has sent, how many of them are completed, and how many of these in the constraint phase
abbrev pub sent_by : {T : Type 0} → ClientId → List (Entry T) → ℕ
sent_by id trace = count_by (λ e. is_arrival id e.event e.returned) trace

abbrev pub completed_by : {T : Type 0} → ClientId → List (Entry T) → ℕ
completed_by id trace = count_by (λ e. is_completion id e.event e.returned) trace

abbrev pub reserved_by : {T : Type 0} → ClientId → List (Entry T) → ℕ
reserved_by id trace = count_by (λ e. is_reserved id e.event e.returned) trace

-- how many requests the server has granted in the phase
abbrev pub granted_by : {T : Type 0} → ServerId → PhaseType → List (Entry T) → ℕ
granted_by s phase trace = count_by (λ e. is_grant s phase e.event e.returned) trace

-- every client's requests are completed
abbrev pub all_complete : {T : Type 0} → SceneValue → List (Entry T) → Bool
all_complete scene trace = list_all (λ c. completed_by c.id trace == c.requests) scene.clients

-- ---- turns

-- the server of each of a client's requests
abbrev pub plan_of : SceneValue → ClientValue → List ServerId
plan_of scene c = planned (word (generator scene.seed c.id.0)) scene.servers c.requests

-- The server of a client's next request. There is none if all its requests are sent, or if as many as its window are
-- outstanding.
abbrev pub next_server : {T : Type 0} → SceneValue → ClientValue → List (Entry T) → Option ServerId
next_server scene c trace = if nat_lt (sent_by c.id trace) (completed_by c.id trace + c.window) then slice_get (plan_of scene c) (sent_by c.id trace) else None

-- a client stamps its next request for this server, if there is one, by the request's number and with its cost, and it arrives at once
abbrev pub send_to : {T : Type 0} → Tagging T → ℕ → ClientValue → Option ServerId → Sim T → Result (Sim T) Refusal
send_to ops at c None sim = Ok sim
send_to ops at c (Some server) sim = do
  stamped ← asked ops (Stamp c.id server (record { 0 = sent_by c.id sim.trace }) (cost_at c.costs (sent_by c.id sim.trace))) sim
  asked ops (Arrive c.id server at) stamped

abbrev pub client_turn : {T : Type 0} → Tagging T → SceneValue → ℕ → ClientValue → Sim T → Result (Sim T) Refusal
client_turn ops scene at c sim = send_to ops at c (next_server scene c sim.trace) sim

-- the client of a grant, if there is one, responds at once
abbrev pub respond_to : {T : Type 0} → Tagging T → ServerId → Option Grant → Sim T → Result (Sim T) Refusal
respond_to ops s None sim = Ok sim
respond_to ops s (Some grant) sim = asked ops (Respond grant.client s grant.phase grant.cost) sim

-- a server pulls once
abbrev pub server_turn : {T : Type 0} → Tagging T → ℕ → ServerId → Sim T → Result (Sim T) Refusal
server_turn ops at s sim = do
  pulled ← asked ops (Pull s at) sim
  respond_to ops s (grant_in ((cluster_step ops sim.run (Pull s at)).1)) pulled

-- ---- rounds

-- one turn after another
abbrev pub each_in_turn : {X T : Type 0} → (X → Sim T → Result (Sim T) Refusal) → List X → Sim T → Result (Sim T) Refusal
each_in_turn turn [] sim = Ok sim
each_in_turn turn (x ∷ xs) sim = do
  next ← turn x sim
  each_in_turn turn xs next

-- server 0, 1, ..
abbrev pub servers_of : SceneValue → List ServerId
servers_of scene = map (λ n. record { 0 = n }) (range_with_len 0 scene.servers)

-- the moment of round k, counted from 0
abbrev pub moment_of : SceneValue → ℕ → ℕ
moment_of scene k = min (k * scene.step) max_moment

-- each client sends a request, if it may, in the scene's order, and then each server serves, by number
abbrev pub round : {T : Type 0} → Tagging T → SceneValue → ℕ → Sim T → Result (Sim T) Refusal
round ops scene k sim = do
  sent ← each_in_turn (client_turn ops scene (moment_of scene k)) scene.clients sim
  each_in_turn (server_turn ops (moment_of scene k)) (servers_of scene) sent

-- The rounds from number k on, of which at most this many are left. They end if all requests are completed, which is tested
-- before each round. The result is how many rounds were made in all, and the simulation after them.
abbrev pub rounds : {T : Type 0} → Tagging T → SceneValue → ℕ → ℕ → Sim T → Result (ℕ × Sim T) Refusal
rounds ops scene zero k sim = Ok (k, sim)
rounds ops scene (suc left) k sim = elim (all_complete scene sim.trace) [
  | true ↦ Ok (k, sim)
  | false ↦ do
    next ← round ops scene k sim
    rounds ops scene left (k + 1) next
]

abbrev pub opening_sim : {T : Type 0} → Tagging T → SceneValue → Sim T
opening_sim ops scene = record { run = opening_of ops scene; trace = [] }

abbrev pub simulation : {T : Type 0} → Tagging T → SceneValue → Result (ℕ × Sim T) Refusal
simulation ops scene = rounds ops scene scene.max_pulls 0 (opening_sim ops scene)

-- What contracts see of the core, and which states of a cluster run it represents.
use Rattle.std.specs.Prelude.{◌≡◌, ℕ, ◌+◌, ◌≤◌, Bool, true, false, List, length, map, slice_get, slice_index_or, Some, Result, Ok, Err}
use Rattle.std.specs.List.{AllByRecursion, AllZip, IsDistinct}
use Rattle.dmc_types.specs.declared.ids.ClientId.{ClientId}
use Rattle.dmc_types.specs.declared.ids.ServerId.{ServerId}
use Rattle.dmc_types.specs.declared.config.Counting.{Counting}
use Rattle.dmc_types.specs.declared.config.PhaseType.{PhaseType}
use Rattle.dmc_types.specs.declared.config.PhaseType.TheVariants.{Reservation, Priority}
use Rattle.dmc_tag.specs.Tag.{Tagging}
use Rattle.dmc_tag.specs.State.{State, PlainClient, is_client}
use Rattle.dmc_tag.specs.declared.reply.Reply.TheVariants.{Refused}
use Rattle.dmc_tracker.specs.Numbers.{Numbers, RepresentsEvents}
use Rattle.dmc_core.specs.Run.{Pair, Client, Run, max_completions, grants, pair_at}
use Rattle.dmc_core.specs.Events.{outcome, cluster_step}
use Rattle.dmc_core.specs.declared.event.CoreEvent.{CoreEvent}
use Rattle.dmc_core.specs.declared.event.CoreEvent.TheVariants.{Stamp, Arrive, Pull, Respond, Update, Remove, Cancel, Clean}
use Rattle.dmc_core.specs.declared.event.CoreReply.{CoreReply}
use Rattle.dmc_core.specs.declared.event.CoreReply.TheVariants.{Served}
use Rattle.dmc_core.specs.declared.event.CoreFault.{CoreFault}
use Rattle.dmc_core.specs.declared.event.CoreFault.TheVariants.{Memory}

-- What a client keeps so that no grant needs memory: how many of its requests to a server may still be granted, in flight or queued,
-- and for how many grants of each phase there is memory.
pub record Room : Type 0 where
  pub waiting : ℕ
  pub reservation : ℕ
  pub priority : ℕ

abbrev pub no_room : Room
no_room = record { waiting = 0; reservation = 0; priority = 0 }

-- for how many grants of a phase there is memory
abbrev pub room_for : PhaseType → Room → ℕ
room_for Reservation room = room.reservation
room_for Priority room = room.priority

-- a client as the core holds it: the numbers of a tracker list in the place of the list
pub record Held : Type 0 where
  pub id : ClientId
  pub tracker : Numbers
  pub pairs : List Pair
  -- at server 0, 1, ..
  pub rooms : List Room

-- the costs of its completions, and of those in the constraint phase
abbrev pub completions_of : Held → ℕ × ℕ
completions_of h = (h.tracker.completions.delta, h.tracker.completions.rho)

abbrev pub room_at : ServerId → List Room → Room
room_at s rooms = slice_index_or rooms s.0 no_room

-- the queue of each server, and the clients
pub record CoreValue (Q : Type 0) : Type 0 where
  pub servers : List Q
  pub clients : List Held

-- the same messages and counts, and the numbers of the tracker list in this form
pub record Matches (counting : Counting) (h : Held) (c : Client) : Type 0 where
  pub id : h.id ≡ c.id
  pub pairs : h.pairs ≡ c.pairs
  pub tracker : RepresentsEvents h.tracker c.list
  pub form : h.tracker.counting ≡ counting
  pub most : h.tracker.most ≡ max_completions
  pub servers : length h.tracker.servers ≡ length h.pairs

-- those in flight and those queued are no more than may still be granted
abbrev pub AreWaiting : {T : Type 0} → ClientId → (flight waiting : ℕ) → PlainClient T → Type 0
AreWaiting id flight waiting c = is_client id c.id ≡ true → flight + length c.requests ≤ waiting

-- each request of the client that may still be granted at a server has room as a grant
pub record HasRoom {T : Type 0} (s : ServerId) (h : Held) (state : State T) : Type 0 where
  pub flight : length (pair_at s h.pairs).flight ≤ (room_at s h.rooms).waiting
  pub queued : AllByRecursion (AreWaiting h.id (length (pair_at s h.pairs).flight) (room_at s h.rooms).waiting) state.clients
  pub room : (phase : PhaseType) → length (grants phase (pair_at s h.pairs)) + (room_at s h.rooms).waiting ≤ room_for phase (room_at s h.rooms)

-- no two records of a server have one id
abbrev pub HasDistinctIds : {T : Type 0} → State T → Type 0
HasDistinctIds state = IsDistinct (λ c d. is_client c.id d.id) state.clients

-- The core represents the run: each queue holds the server's plain state, each client is as above, and there is room for its grants.
pub record RepresentsRun {T Q : Type 0} (state : Q → State T) (core : CoreValue Q) (run : Run T) : Type 0 where
  pub servers : run.servers ≡ map state core.servers
  pub distinct : AllByRecursion (λ u. HasDistinctIds u) run.servers
  pub clients : AllZip (Matches run.counting) core.clients run.clients
  pub rooms : (s : ServerId) (q : Q) → slice_get core.servers s.0 ≡ Some q → AllByRecursion (λ h. HasRoom s h (state q)) core.clients

-- ---- what a call does, of each run that the core represents

-- only these two may fail for an allocation
abbrev pub may_grow : CoreEvent → Bool
may_grow (Stamp client server token cost) = true
may_grow (Arrive client server at) = true
may_grow (Pull server at) = false
may_grow (Respond client server phase cost) = false
may_grow (Update server client info at) = false
may_grow (Remove server client) = false
may_grow (Cancel server client token) = false
may_grow (Clean server at) = false

-- neither the rules of the cluster nor those of a queue refuse
abbrev pub is_accepting : {T : Type 0} → CoreReply T → Bool
is_accepting (Served (Refused refusal)) = false
is_accepting reply = true

abbrev pub is_accepted : {X T : Type 0} → Result (X × CoreReply T) CoreFault → Bool
is_accepted (Ok (next, reply)) = is_accepting reply
is_accepted (Err fault) = false

-- From each run that the core represents, the answer is that of the rules, and the core represents the run after. Or an
-- allocation fails, of an event that may allocate and that the rules accept, and the core represents what it did before.
abbrev pub Follows : {T Q : Type 0} → Tagging T → (Q → State T) → CoreEvent → CoreValue Q → CoreValue Q → Result (CoreReply T) CoreFault → Type 0
Follows {T} ops state event old new (Err Memory) = (may_grow event ≡ true)
    × ((run : Run T) → RepresentsRun state old run → (is_accepted (outcome ops run event) ≡ true) × RepresentsRun state new run)
Follows {T} ops state event old new answer = (run : Run T) → RepresentsRun state old run
    → (answer ≡ (cluster_step ops run event).1) × RepresentsRun state new ((cluster_step ops run event).0)

-- ---- the same of one client

-- the rule gives this reply, and a client that is matched
pub record Next {T : Type 0} (counting : Counting) (ruled : Result (Client × CoreReply T) CoreFault) (new : Held) (reply : CoreReply T) : Type 0 where
  pub next : Client
  pub ruled_is : ruled ≡ Ok (next, reply)
  pub matches : Matches counting new next

-- the rule refuses; if memory is wanted it accepts
abbrev pub IsRefusal : {T : Type 0} → CoreFault → Result (Client × CoreReply T) CoreFault → Type 0
IsRefusal Memory ruled = is_accepted ruled ≡ true
IsRefusal fault ruled = ruled ≡ Err fault

-- From each client that is matched, the rule is followed; a refusal leaves all, but there may be more room.
abbrev pub ClientFollows : {T : Type 0} → (Counting → Client → Result (Client × CoreReply T) CoreFault) → Held → Held → Result (CoreReply T) CoreFault → Type 0
ClientFollows rule old new (Ok reply) = (counting : Counting) (c : Client) → Matches counting old c → Next counting (rule counting c) new reply
ClientFollows rule old new (Err fault) = (new ≡ record old { rooms = new.rooms }) × ((counting : Counting) (c : Client) → Matches counting old c → IsRefusal fault (rule counting c))

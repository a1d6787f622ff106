-- The bounds of the limit and of the reservation over a cluster run. The arrivals of a client at a server, a_1, a_2, .., are the
-- accepted adds of the client in the server's history.
use Rattle.std.specs.Prelude.{◌≡◌, ℕ, zero, suc, ◌+◌, ◌*◌, ◌-◌, ◌≤◌, ◌<◌, ◌==◌, if◌then◌else◌, List, [], ◌∷◌, ◌++◌, map, take, Option, Some, None, ⊤}
use Rattle.dmc_types.specs.Values.{Params, Setting}
use Rattle.dmc_types.specs.declared.ids.ClientId.{ClientId}
use Rattle.dmc_types.specs.declared.ids.ServerId.{ServerId}
use Rattle.dmc_types.specs.declared.config.Counting.{Counting}
use Rattle.dmc_types.specs.declared.config.Counting.TheVariants as counting
use Rattle.dmc_types.specs.declared.config.PhaseType.TheVariants.{Priority}
use Rattle.dmc_tag.specs.Tag.{Tagging}
use Rattle.dmc_tag.specs.Replay.{after}
use Rattle.dmc_tag.specs.declared.event.Event.{Event}
use Rattle.dmc_history_laws.specs.Bounds.{Arrival, Span, WaitingSpan, IsOf, NeverCancelled, KeepsToReservations, KeepsToReservationsWithCancels, arrivals, given_back, limit_of, sum_of, ticks}
use Rattle.dmc_scene.specs.SceneValue.{SceneValue}
use Rattle.dmc_tracker.specs.declared.event.TrackerEvent.{TrackerEvent}
use Rattle.dmc_tracker.specs.declared.event.TrackerEvent.TheVariants as entries
use Rattle.dmc_tracker.specs.TrackerList.{completions, is_stamp_to}
use Rattle.dmc_core.specs.declared.event.CoreEvent.{CoreEvent}
use Rattle.dmc_core.specs.Run.{Client, Run, pair_at}
use Rattle.dmc_core.specs.Events.{run_after}
use Rattle.dmc_core.specs.Opening.{opening_of}
use Rattle.dmc_core_laws.specs.Histories.{client_in, history}

-- the run after the events, from the scene's opening on
abbrev pub run_of : {T : Type 0} → Tagging T → SceneValue → List CoreEvent → Run T
run_of ops scene events = run_after ops (opening_of ops scene) events

-- ---- C_j: the costs of the client's completions when a_j was stamped

abbrev pub list_in : Option Client → List TrackerEvent
list_in (Some c) = c.list
list_in None = []

abbrev pub tracker_list : {T : Type 0} → Run T → ClientId → List TrackerEvent
tracker_list run id = list_in (client_in run id)

-- the entries of a tracker list before its stamp number j to s, from 0
abbrev pub before_stamp : ServerId → ℕ → List TrackerEvent → List TrackerEvent
before_stamp s j [] = []
before_stamp s zero (e ∷ es) = if is_stamp_to s e then [] else e ∷ before_stamp s zero es
before_stamp s (suc j) (e ∷ es) = e ∷ (if is_stamp_to s e then before_stamp s j es else before_stamp s (suc j) es)

-- C_j; stamp number j - 1 is that of a_j
abbrev pub completed_at : ServerId → ℕ → List TrackerEvent → ℕ
completed_at s j list = (completions (before_stamp s (j - 1) list)).delta

-- the params of the stamps to s, in order
abbrev pub stamp_in : ServerId → TrackerEvent → List Params
stamp_in s (entries.Stamp server params) = if server.0 == s.0 then params ∷ [] else []
stamp_in s (entries.Skip server) = []
stamp_in s (entries.Response server phase cost) = []

abbrev pub stamps_to : ServerId → List TrackerEvent → List Params
stamps_to s [] = []
stamps_to s (e ∷ es) = stamp_in s e ++ stamps_to s es

-- Requests arrive in the order of their stamps: the params of a client's arrivals at s, and then of its messages in flight to s,
-- are those of the stamps to s in its tracker list. So a_j has stamp number j - 1.
abbrev pub ArrivalsFollowStamps : {T : Type 0} → Tagging T → Type 0
ArrivalsFollowStamps ops =
    (scene : SceneValue) (id : ClientId) (s : ServerId) (events : List CoreEvent) (c : Client) → s.0 < scene.servers
    → client_in (run_of ops scene events) id ≡ Some c
    → map (λ a. a.params) (arrivals id (history ops scene s events)) ++ map (λ m. m.params) (pair_at s c.pairs).flight ≡ stamps_to s c.list

-- ---- the bounds of a client of which no request was taken back

-- what the limit bounds: in the form `All` C_k - C_i, in the form `Others` the sum of the deltas of a_(i+1) .. a_k
abbrev pub counted : Counting → ServerId → List TrackerEvent → (i k : ℕ) → List Arrival → ℕ
counted counting.All s list i k arrivals = completed_at s k list - completed_at s i list
counted counting.Others s list i k arrivals = sum_of (λ p. p.delta) i k arrivals

-- Limit at a server with this history, of a client whose tracker has this list: up to a grant in phase Priority, not beyond
abbrev pub KeepsToLimitAt : {T : Type 0} → Tagging T → Setting → Counting → ClientId → ServerId → List TrackerEvent → List (Event T) → Type 0
KeepsToLimitAt ops config counting id s list history =
    (l : ℕ) (span : Span id Priority history)
    → NeverCancelled id history
    → limit_of id (after ops config (take (suc span.arrived) history)) ≡ Some l
    → IsOf span.token span.cost span.k (arrivals id history)
    × (config.hz * counted counting s list span.i span.k (arrivals id history) ≤ l * ticks ops config history span.arrived span.granted span.moment)

-- of each run, whose servers' histories have no Register but those of the opening
abbrev pub LimitOverRuns : {T : Type 0} → Tagging T → Type 0
LimitOverRuns ops =
    (scene : SceneValue) (events : List CoreEvent) (id : ClientId) (s : ServerId) → 0 < scene.config.hz → s.0 < scene.servers
    → KeepsToLimitAt ops scene.config scene.counting id s (tracker_list (run_of ops scene events) id) (history ops scene s events)

abbrev pub ReservationOverRuns : {T : Type 0} → Tagging T → Type 0
ReservationOverRuns ops =
    (scene : SceneValue) (events : List CoreEvent) (s : ServerId) → 0 < scene.config.hz → s.0 < scene.servers
    → KeepsToReservations ops scene.config (history ops scene s events)

-- ---- the bounds, whatever was taken back

-- How much may be counted: what was given back counts against the deltas. In the form `All` no completion is given back.
abbrev pub allowed : Counting → (hz within given : ℕ) → ℕ
allowed counting.All hz within given = within
allowed counting.Others hz within given = within + hz * given

-- Limit at a server with this history, of a client whose tracker has this list: up to a grant in phase Priority, not beyond
abbrev pub KeepsToLimitWithCancelsAt : {T : Type 0} → Tagging T → Setting → Counting → ClientId → ServerId → List TrackerEvent → List (Event T) → Type 0
KeepsToLimitWithCancelsAt ops config counting id s list history =
    (l : ℕ) (span : WaitingSpan id Priority history)
    → limit_of id (after ops config (take (suc span.arrived) history)) ≡ Some l
    → IsOf span.token span.cost span.k (arrivals id history)
    × (config.hz * counted counting s list span.i span.k (arrivals id history)
    ≤ allowed counting config.hz (l * ticks ops config history span.arrived span.granted span.moment) (given_back id span.i span.k (take span.granted history)))

abbrev pub LimitOverRunsWithCancels : {T : Type 0} → Tagging T → Type 0
LimitOverRunsWithCancels ops =
    (scene : SceneValue) (events : List CoreEvent) (id : ClientId) (s : ServerId) → 0 < scene.config.hz → s.0 < scene.servers
    → KeepsToLimitWithCancelsAt ops scene.config scene.counting id s (tracker_list (run_of ops scene events) id) (history ops scene s events)

abbrev pub ReservationOverRunsWithCancels : {T : Type 0} → Tagging T → Type 0
ReservationOverRunsWithCancels ops =
    (scene : SceneValue) (events : List CoreEvent) (s : ServerId) → 0 < scene.config.hz → s.0 < scene.servers
    → KeepsToReservationsWithCancels ops scene.config (history ops scene s events)

-- In the form `All` nothing is given back, in any part of a history from its opening on.
abbrev pub GivesNothingBack : {T : Type 0} → Counting → List (Event T) → Type 0
GivesNothingBack counting.All history = (id : ClientId) (i k n : ℕ) → given_back id i k (take n history) ≡ 0
GivesNothingBack counting.Others history = ⊤

abbrev pub NothingGivenBackInRuns : {T : Type 0} → Tagging T → Type 0
NothingGivenBackInRuns ops = (scene : SceneValue) (events : List CoreEvent) (s : ServerId) → GivesNothingBack scene.counting (history ops scene s events)

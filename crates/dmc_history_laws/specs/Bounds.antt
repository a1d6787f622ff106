-- Bounds of a client's grants over whole histories: of its limit and of its reservation.
use Rattle.std.specs.Prelude.{◌≡◌, ℕ, suc, ◌+◌, ◌*◌, ◌-◌, ◌<◌, ◌≤◌, nat_lt, true, false, not, ◌&&◌, ◌==◌, List, [], ◌∷◌, ◌++◌, map, filter, drop, take, length, slice_get, sum_by, Bool, Option, Some, if◌then◌else◌, ⊤}
use Rattle.std.specs.Option.{option_and_then, option_map}
use Rattle.dmc_types.specs.Values.{Params, Setting}
use Rattle.dmc_types.specs.declared.ids.ClientId.{ClientId}
use Rattle.dmc_types.specs.declared.ids.Token.{Token}
use Rattle.dmc_types.specs.declared.config.Counting.TheVariants.{Others}
use Rattle.dmc_types.specs.declared.config.PhaseType.{PhaseType}
use Rattle.dmc_types.specs.declared.config.PhaseType.TheVariants.{Reservation, Priority}
use Rattle.dmc_types.specs.declared.command.Command.{Command}
use Rattle.dmc_types.specs.declared.command.Command.TheVariants.{Register, Update, Add, Pull, Remove, Cancel}
use Rattle.dmc_tag.specs.Tag.{Tagging}
use Rattle.dmc_tag.specs.State.{State, is_client, requests_of, client_named, effective}
use Rattle.dmc_tag.specs.Replay.{after, replays}
use Rattle.dmc_tag.specs.declared.event.Event.{Event}
use Rattle.dmc_tag.specs.declared.plain.QueuedRequest.{QueuedRequest}
use Rattle.dmc_tag.specs.declared.reply.Reply.{Reply}
use Rattle.dmc_tag.specs.declared.reply.Reply.TheVariants.{Registered, Updated, Tagged, Granted, Removed}

-- ---- a client's arrivals, a_1, a_2, ..: its accepted adds in order

pub record Arrival : Type 0 where
  pub token : Token
  pub params : Params

-- the client's accepted add, if the event is one
abbrev pub arrival_of : {T : Type 0} → ClientId → Command → Reply T → List Arrival
arrival_of id (Add client token params at) (Tagged tags) = if is_client id client then record { token = token; params = params } ∷ [] else []
arrival_of id command reply = []

abbrev pub arrivals : {T : Type 0} → ClientId → List (Event T) → List Arrival
arrivals id [] = []
arrivals id (e ∷ es) = arrival_of id e.command e.reply ++ arrivals id es

-- how many of its queued requests the reply removes from the front: one by a grant, all by a Remove
abbrev pub departed : {T : Type 0} → ClientId → Command → Reply T → ℕ
departed id (Pull at) (Granted client token phase beyond cost) = if is_client id client then 1 else 0
departed id (Remove client) (Removed count) = if is_client id client then count else 0
departed id command reply = 0

abbrev pub departures : {T : Type 0} → ClientId → List (Event T) → ℕ
departures id [] = 0
departures id (e ∷ es) = departed id e.command e.reply + departures id es

-- W: the costs of its Priority grants, beyond or not
abbrev pub prioritized : {T : Type 0} → ClientId → Command → Reply T → ℕ
prioritized id (Pull at) (Granted client token Priority beyond cost) = if is_client id client then cost else 0
prioritized id command reply = 0

abbrev pub priorities : {T : Type 0} → ClientId → List (Event T) → ℕ
priorities id [] = 0
priorities id (e ∷ es) = prioritized id e.command e.reply + priorities id es

-- what a request is asked with: its token and its cost
pub record Asked : Type 0 where
  pub token : Token
  pub cost : ℕ

abbrev pub asked_by : {T : Type 0} → QueuedRequest T → Asked
asked_by r = record { token = r.token; cost = r.cost }

abbrev pub asked_at : Arrival → Asked
asked_at a = record { token = a.token; cost = a.params.cost }

-- ---- which of them wait

-- an arrival with its number, from 1
pub record Numbered : Type 0 where
  pub number : ℕ
  pub arrival : Arrival

abbrev pub numbered_from : ℕ → List Arrival → List Numbered
numbered_from n [] = []
numbered_from n (a ∷ rest) = record { number = n; arrival = a } ∷ numbered_from (suc n) rest

abbrev pub has_token : Token → Numbered → Bool
has_token token n = n.arrival.token.0 == token.0

-- those that go on waiting: a grant takes the first one, a Remove takes all, and a Cancel those with its token
abbrev pub still_waiting : {T : Type 0} → ClientId → Command → Reply T → List Numbered → List Numbered
still_waiting id (Pull at) (Granted client token phase beyond cost) those = if is_client id client then drop 1 those else those
still_waiting id (Remove client) (Removed count) those = if is_client id client then [] else those
still_waiting id (Cancel client token counting) (Removed count) those = if is_client id client then filter (λ n. not (has_token token n)) those else those
still_waiting id command reply those = those

-- those that wait after the events, if this many had arrived before, of which those waited; an arrival waits behind the others
abbrev pub waiting_from : {T : Type 0} → ClientId → ℕ → List Numbered → List (Event T) → List Numbered
waiting_from id arrived those [] = those
waiting_from id arrived those (e ∷ es) =
    let came = arrival_of id e.command e.reply in
    waiting_from id (arrived + length came) (still_waiting id e.command e.reply those ++ numbered_from (suc arrived) came) es

abbrev pub waiting : {T : Type 0} → ClientId → List (Event T) → List Numbered
waiting id events = waiting_from id 0 [] events

-- The client's queued requests are those of its arrivals that wait, in their order, each with its token and its cost.
abbrev pub InOrderOfArrival : {T : Type 0} → Tagging T → Setting → Type 0
InOrderOfArrival {T} ops config = (id : ClientId) (events : List (Event T)) → replays ops config events
    → map asked_by (requests_of id (after ops config events).clients) ≡ map (λ n. asked_at n.arrival) (waiting id events)

-- ---- what cancels gave back

-- those that a Cancel in the form Others takes out: what they were charged is given back
abbrev pub given_back_of : {T : Type 0} → ClientId → Command → Reply T → List Numbered → List Numbered
given_back_of id (Cancel client token Others) (Removed count) those = if is_client id client then filter (has_token token) those else []
given_back_of id command reply those = []

-- those of all events, if this many had arrived before, of which those waited
abbrev pub given_back_from : {T : Type 0} → ClientId → ℕ → List Numbered → List (Event T) → List Numbered
given_back_from id arrived those [] = []
given_back_from id arrived those (e ∷ es) =
    let came = arrival_of id e.command e.reply in
    given_back_of id e.command e.reply those ++ given_back_from id (arrived + length came) (still_waiting id e.command e.reply those ++ numbered_from (suc arrived) came) es

abbrev pub is_between : (i k : ℕ) → Numbered → Bool
is_between i k n = nat_lt i n.number && nat_lt n.number k

-- the costs of those numbered between i and k
abbrev pub cost_between : (i k : ℕ) → List Numbered → ℕ
cost_between i k those = sum_by (λ n. n.arrival.params.cost) (filter (is_between i k) those)

-- G: the costs of the client's arrivals a_j, i < j < k, that a Cancel in the form Others took out
abbrev pub given_back : {T : Type 0} → ClientId → (i k : ℕ) → List (Event T) → ℕ
given_back id i k events = cost_between i k (given_back_from id 0 [] events)

-- ---- a client of which no request was taken back: no Cancel of it is accepted

-- no Cancel of the client is accepted
abbrev pub NotCancelled : {T : Type 0} → ClientId → Command → Reply T → Type 0
NotCancelled id (Cancel client token counting) (Removed count) = is_client id client ≡ false
NotCancelled id command reply = ⊤

abbrev pub NeverCancelled : {T : Type 0} → ClientId → List (Event T) → Type 0
NeverCancelled id [] = ⊤
NeverCancelled id (e ∷ es) = NotCancelled id e.command e.reply × NeverCancelled id es

-- If it was never cancelled, the client's queued requests are its arrivals without the first ones, as many as were removed.
abbrev pub InOrderIfNeverCancelled : {T : Type 0} → Tagging T → Setting → Type 0
InOrderIfNeverCancelled {T} ops config = (id : ClientId) (events : List (Event T)) → replays ops config events → NeverCancelled id events
    → map asked_by (requests_of id (after ops config events).clients) ≡ drop (departures id events) (map asked_at (arrivals id events))

-- ---- which events are meant

-- the client's add is accepted
abbrev pub Arrives : {T : Type 0} → ClientId → Command → Reply T → Type 0
Arrives id (Add client token params at) (Tagged tags) = is_client id client ≡ true
Arrives id command reply = ⊥

-- no Register and no Update of the client is accepted
abbrev pub Keeps : {T : Type 0} → ClientId → Command → Reply T → Type 0
Keeps id (Register client info at) Registered = is_client id client ≡ false
Keeps id (Update client info at) Updated = is_client id client ≡ false
Keeps id command reply = ⊤

abbrev pub AllKeep : {T : Type 0} → ClientId → List (Event T) → Type 0
AllKeep id [] = ⊤
AllKeep id (e ∷ es) = Keeps id e.command e.reply × AllKeep id es

-- the client's limit
abbrev pub limit_of : {T : Type 0} → ClientId → State T → Option ℕ
limit_of id s = option_and_then (λ c. c.info.limit) (client_named id s.clients)

-- the client's reservation
abbrev pub reservation_of : {T : Type 0} → ClientId → State T → Option ℕ
reservation_of id s = option_and_then (λ c. c.info.reservation) (client_named id s.clients)

-- ---- from an arrival to a grant
-- A client's arrivals a_1, a_2, .. are numbered from 1; the events of a history are numbered from 0.

-- the events behind number n and before number m
abbrev pub between : {E : Type 0} → (n m : ℕ) → List E → List E
between n m events = drop (suc n) (take m events)

-- A span of a client's requests, from a_i to a_k. The event `arrived` is the add of a_i. The event `granted` is a pull, which grants
-- a_k in this phase, not beyond; `Is` says which k that is by the events before. No Register and no Update of the client is accepted
-- in between.
pub record SpanBy {T : Type 0} (Is : ℕ → List (Event T) → Type 0) (id : ClientId) (phase : PhaseType) (history : List (Event T)) : Type 0 where
  pub i : ℕ
  pub k : ℕ
  pub arrived : ℕ
  pub granted : ℕ
  pub later : arrived < granted
  pub add : Event T
  pub add_is : slice_get history arrived ≡ Some add
  pub arrives : Arrives id add.command add.reply
  pub i_is : i ≡ length (arrivals id (take (suc arrived) history))
  pub grant : Event T
  pub grant_is : slice_get history granted ≡ Some grant
  pub moment : ℕ
  pub pulls : grant.command ≡ Pull moment
  pub token : Token
  pub cost : ℕ
  pub grants : grant.reply ≡ Granted id token phase false cost
  pub k_is : Is k (take granted history)
  pub kept : AllKeep id (between arrived granted history)

-- k is one more than the number of arrivals that had left by then
abbrev pub IsBehindThoseThatLeft : {T : Type 0} → ClientId → ℕ → List (Event T) → Type 0
IsBehindThoseThatLeft id k events = k ≡ suc (departures id events)

-- a_k is the first of those that wait by then
abbrev pub IsFirstThatWaits : {T : Type 0} → ClientId → ℕ → List (Event T) → Type 0
IsFirstThatWaits id k events = option_map (λ n. n.number) (slice_get (waiting id events) 0) ≡ Some k

-- of a client that was never cancelled
abbrev pub Span : {T : Type 0} → ClientId → PhaseType → List (Event T) → Type 0
Span id phase history = SpanBy (IsBehindThoseThatLeft id) id phase history

-- of a client that may have been cancelled
abbrev pub WaitingSpan : {T : Type 0} → ClientId → PhaseType → List (Event T) → Type 0
WaitingSpan id phase history = SpanBy (IsFirstThatWaits id) id phase history

-- the ticks from the add with this number to the pull with this number, at this moment
abbrev pub ticks : {T : Type 0} → Tagging T → Setting → List (Event T) → (arrived granted moment : ℕ) → ℕ
ticks ops config history arrived granted moment = effective (after ops config (take granted history)) moment - (after ops config (take (suc arrived) history)).last_moment

-- the sum over a_(i+1) .. a_k
abbrev pub sum_of : (Params → ℕ) → (i k : ℕ) → List Arrival → ℕ
sum_of part i k arrivals = sum_by (λ a. part a.params) (drop i (take k arrivals))

-- the granted request is a_k, of this token and this cost
pub record IsOf (token : Token) (cost k : ℕ) (arrivals : List Arrival) : Type 0 where
  pub arrival : Arrival
  pub here : slice_get arrivals (k - 1) ≡ Some arrival
  pub same : arrival.token ≡ token
  pub costs : arrival.params.cost ≡ cost

-- ---- the bounds of a history, of a client of which no request was taken back

-- Limit: up to a grant in phase Priority, not beyond
abbrev pub KeepsToLimits : {T : Type 0} → Tagging T → Setting → List (Event T) → Type 0
KeepsToLimits ops config history =
    (id : ClientId) (l : ℕ) (span : Span id Priority history)
    → NeverCancelled id history
    → limit_of id (after ops config (take (suc span.arrived) history)) ≡ Some l
    → IsOf span.token span.cost span.k (arrivals id history)
    × (config.hz * sum_of (λ p. p.delta) span.i span.k (arrivals id history) ≤ l * ticks ops config history span.arrived span.granted span.moment)

-- Reservation: up to a grant in phase Reservation; the cost of each Priority grant of the client after a_i counts against the rhos
abbrev pub KeepsToReservations : {T : Type 0} → Tagging T → Setting → List (Event T) → Type 0
KeepsToReservations ops config history =
    (id : ClientId) (r : ℕ) (span : Span id Reservation history)
    → NeverCancelled id history
    → reservation_of id (after ops config (take (suc span.arrived) history)) ≡ Some r
    → IsOf span.token span.cost span.k (arrivals id history)
    × (config.hz * sum_of (λ p. p.rho) span.i span.k (arrivals id history)
    ≤ r * ticks ops config history span.arrived span.granted span.moment + config.hz * priorities id (between span.arrived span.granted history))

-- ---- the bounds of a history, whatever was taken back

-- Limit: what was given back in front of a_k counts against the deltas
abbrev pub KeepsToLimitsWithCancels : {T : Type 0} → Tagging T → Setting → List (Event T) → Type 0
KeepsToLimitsWithCancels ops config history =
    (id : ClientId) (l : ℕ) (span : WaitingSpan id Priority history)
    → limit_of id (after ops config (take (suc span.arrived) history)) ≡ Some l
    → IsOf span.token span.cost span.k (arrivals id history)
    × (config.hz * sum_of (λ p. p.delta) span.i span.k (arrivals id history)
    ≤ l * ticks ops config history span.arrived span.granted span.moment + config.hz * given_back id span.i span.k (take span.granted history))

-- Reservation: what was given back counts against the rhos, as the costs of the Priority grants do
abbrev pub KeepsToReservationsWithCancels : {T : Type 0} → Tagging T → Setting → List (Event T) → Type 0
KeepsToReservationsWithCancels ops config history =
    (id : ClientId) (r : ℕ) (span : WaitingSpan id Reservation history)
    → reservation_of id (after ops config (take (suc span.arrived) history)) ≡ Some r
    → IsOf span.token span.cost span.k (arrivals id history)
    × (config.hz * sum_of (λ p. p.rho) span.i span.k (arrivals id history)
    ≤ r * ticks ops config history span.arrived span.granted span.moment + config.hz * priorities id (between span.arrived span.granted history) + config.hz * given_back id span.i span.k (take span.granted history))

-- ---- of each history that replays

abbrev pub LimitBound : {T : Type 0} → Tagging T → Setting → Type 0
LimitBound {T} ops config = (history : List (Event T)) → replays ops config history → KeepsToLimits ops config history

abbrev pub ReservationBound : {T : Type 0} → Tagging T → Setting → Type 0
ReservationBound {T} ops config = (history : List (Event T)) → replays ops config history → KeepsToReservations ops config history

abbrev pub LimitBoundWithCancels : {T : Type 0} → Tagging T → Setting → Type 0
LimitBoundWithCancels {T} ops config = (history : List (Event T)) → replays ops config history → KeepsToLimitsWithCancels ops config history

abbrev pub ReservationBoundWithCancels : {T : Type 0} → Tagging T → Setting → Type 0
ReservationBoundWithCancels {T} ops config = (history : List (Event T)) → replays ops config history → KeepsToReservationsWithCancels ops config history

-- The rules of dmClock over the plain state, each under its name.
use Rattle.std.specs.Prelude.{ℕ, ◌+◌, ◌-◌, Bool, true, false, not, ◌&&◌, ◌||◌, List, [], ◌∷◌, ◌++◌, map, length, min, fold, Option, Some, None, is_some, is_none, Result, Ok, if◌then◌else◌, nat_le, nat_lt, ℤ, pos, negsuc, filter, ⊤}
use Rattle.std.specs.Option.{ok_or, unwrap_or, option_map, option_map_or}
use Rattle.std.specs.Result.{result_ok}
use Rattle.std.specs.List.{list_all}
use Rattle.std.specs.Ordering.{ord_max, ord_min}
use Rattle.dmc_types.specs.Limits.{max_clients, max_requests}
use Rattle.dmc_types.specs.Values.{Rates, Params}
use Rattle.dmc_types.specs.declared.ids.ClientId.{ClientId}
use Rattle.dmc_types.specs.declared.ids.Token.{Token}
use Rattle.dmc_types.specs.declared.config.AtLimit.{AtLimit}
use Rattle.dmc_types.specs.declared.config.AtLimit.TheVariants.{Wait, Allow, Reject}
use Rattle.dmc_types.specs.declared.config.Shares.{Shares}
use Rattle.dmc_types.specs.declared.config.Shares.TheVariants.{Clock, Virtual}
use Rattle.dmc_types.specs.declared.config.PhaseType.{PhaseType}
use Rattle.dmc_types.specs.declared.config.PhaseType.TheVariants as phases
use Rattle.dmc_types.specs.declared.refusal.Refusal.{Refusal}
use Rattle.dmc_types.specs.declared.refusal.Refusal.TheVariants.{Known, Unknown, Clients, QueueFull, Range, Busy, OverLimit}
use Rattle.dmc_tag.specs.Tag.{Tagging}
use Rattle.dmc_tag.specs.Outcome.{◌>>=◌, refuse_if, in_range, exactly}
use Rattle.dmc_tag.specs.Spacing.{spacings_of}
use Rattle.dmc_tag.specs.State.{State, PlainClient, is_client, is_busy, client_named, queued_requests, is_nothing_queued}
use Rattle.dmc_tag.specs.Best.{Found, best_of_all, by_reservation, by_weight, is_early, is_free, is_any}
use Rattle.dmc_tag.specs.declared.plain.QueuedRequest.{QueuedRequest}
use Rattle.dmc_tag.specs.declared.plain.Previous.{Previous}
use Rattle.dmc_tag.specs.declared.plain.Slack.{Slack}
use Rattle.dmc_tag.specs.declared.plain.Progress.{Progress}
use Rattle.dmc_tag.specs.declared.spacing.Spacings.{Spacings}
use Rattle.dmc_tag.specs.declared.reply.Tags.{Tags}
use Rattle.dmc_tag.specs.declared.reply.Reply.{Reply}
use Rattle.dmc_tag.specs.declared.reply.Reply.TheVariants.{Registered, Updated, Tagged, Granted, Later, Nothing, Removed, Cleaned}

-- a state and the reply to a command, or its refusal
abbrev pub Outcome : Type 0 → Type 0
Outcome T = Result (State T × Reply T) Refusal

-- the client's record is changed, and each other stays
abbrev pub change_client : {T : Type 0} → ClientId → (PlainClient T → PlainClient T) → List (PlainClient T) → List (PlainClient T)
change_client id f clients = map (λ c. if is_client id c.id then f c else c) clients

-- ---- Register

-- before the first request all is 0
abbrev pub no_previous : {T : Type 0} → Tagging T → Previous T
no_previous ops =
    let zero_tag = ops.of_moment 0 in
    record { r = zero_tag; l = zero_tag; p = zero_tag; slack = record { r = zero_tag; l = zero_tag; p = zero_tag }; cancelled = false }

abbrev pub newcomer : {T : Type 0} → Tagging T → ClientId → Rates → ℕ → PlainClient T
newcomer ops id info t =
    record { id = id; info = info; previous = no_previous ops; idle = true; last_arrival = t; requests = [] }

-- the tests of a registration, in order
abbrev pub can_register : {T : Type 0} → Tagging T → State T → ClientId → Rates → Result ⊤ Refusal
can_register ops s id info = do
  _ ← refuse_if (is_some (client_named id s.clients)) Known
  _ ← exactly (spacings_of ops s.config.hz info)
  refuse_if (nat_le max_clients (length s.clients)) Clients

abbrev pub registered : {T : Type 0} → Tagging T → State T → ClientId → Rates → ℕ → Outcome T
registered ops s id info t =
    can_register ops s id info
    >>= λ _. Ok (record s { clients = s.clients ++ newcomer ops id info t ∷ []; last_moment = t }, Registered)

-- ---- Update

-- whether an update gives or takes a reservation
abbrev pub changes_reservation : Rates → Rates → Bool
changes_reservation old new = if is_some old.reservation then is_none new.reservation else is_some new.reservation

abbrev pub with_info : {T : Type 0} → Rates → PlainClient T → PlainClient T
with_info info c = record c { info = info }

-- the tests of an update, in order
abbrev pub can_update : {T : Type 0} → Tagging T → State T → ClientId → Rates → Result ⊤ Refusal
can_update ops s id info = do
  client ← ok_or (client_named id s.clients) Unknown
  _ ← exactly (spacings_of ops s.config.hz info)
  refuse_if (changes_reservation client.info info && is_busy client) Busy

abbrev pub updated : {T : Type 0} → Tagging T → State T → ClientId → Rates → ℕ → Outcome T
updated ops s id info t =
    can_update ops s id info
    >>= λ _. Ok (record s { clients = change_client id (with_info info) s.clients; last_moment = t }, Updated)

-- ---- Virtual time: under Shares::Virtual a new P is compared with how far the service has come, and not with the clock

-- the virtual time at an arrival: if nothing is queued, it goes on to the furthest P
abbrev pub virtual_at : {T : Type 0} → Tagging T → Bool → Progress T → T
virtual_at ops nothing_queued progress = if nothing_queued then ord_max ops.compare progress.virtual_time progress.furthest else progress.virtual_time

-- what the P of a request that arrives at t is compared with
abbrev pub floor_by : {T : Type 0} → Tagging T → Shares → Bool → Progress T → T → T
floor_by ops Clock nothing_queued progress t = t
floor_by ops Virtual nothing_queued progress t = virtual_at ops nothing_queued progress

abbrev pub share_floor : {T : Type 0} → Tagging T → State T → T → T
share_floor ops s t = floor_by ops s.config.shares (is_nothing_queued s.clients) s.progress t

-- after the arrival of a request with this P
abbrev pub progress_added : {T : Type 0} → Tagging T → Shares → Bool → T → Progress T → Progress T
progress_added ops Clock nothing_queued share progress = progress
progress_added ops Virtual nothing_queued share progress = record { virtual_time = virtual_at ops nothing_queued progress; furthest = ord_max ops.compare progress.furthest share }

-- after a grant of a request with this P: one by weight takes the virtual time to it
abbrev pub progress_granted : {T : Type 0} → Tagging T → PhaseType → Shares → T → Progress T → Progress T
progress_granted ops phases.Reservation shares share progress = progress
progress_granted ops phases.Priority Clock share progress = progress
progress_granted ops phases.Priority Virtual share progress = record progress { virtual_time = ord_max ops.compare progress.virtual_time share }

-- ---- Assignment: R and L are max(previous + k*spacing, t), k being rho for R and delta for L. P is max(previous + delta*spacing,
-- floor); under Shares::Clock the floor is t.

abbrev pub next_tag : {T : Type 0} → Tagging T → T → ℕ → T → T → Result T Refusal
next_tag ops previous k spacing t = do
  step ← in_range (ops.steps spacing k)
  sum ← in_range (ops.plus previous step)
  Ok (ord_max ops.compare sum t)

-- without a reservation there is no R
abbrev pub next_reservation : {T : Type 0} → Tagging T → T → ℕ → Option T → T → Result (Option T) Refusal
next_reservation ops previous k None t = Ok None
next_reservation ops previous k (Some spacing) t = next_tag ops previous k spacing t >>= λ r. Ok (Some r)

abbrev pub next_tags : {T : Type 0} → Tagging T → Spacings T → Previous T → Params → (t floor : T) → Result (Tags T) Refusal
next_tags ops spacings previous params t floor = do
  r ← next_reservation ops previous.r params.rho spacings.r t
  l ← next_tag ops previous.l params.delta spacings.l t
  p ← next_tag ops previous.p params.delta spacings.p floor
  Ok (record { r = r; l = l; p = p })

abbrev pub assigned : {T : Type 0} → Tagging T → ℕ → PlainClient T → Params → (t floor : T) → Result (Tags T) Refusal
assigned ops hz client params t floor = do
  spacings ← in_range (result_ok (spacings_of ops hz client.info))
  next_tags ops spacings client.previous params t floor

-- the new tags become the previous tags; without an R, previous R stays
abbrev pub previous_after : {T : Type 0} → Tags T → Slack T → Previous T → Previous T
previous_after tags slack previous = record { r = unwrap_or tags.r previous.r; l = tags.l; p = tags.p; slack = slack; cancelled = false }

-- ---- Slack: how far a tag may fall if requests before it are cancelled

-- a tag less another, or nothing if that is no value
abbrev pub above : {T : Type 0} → Tagging T → (tag floor : T) → T
above ops tag floor = unwrap_or (ops.minus tag floor) (ops.of_moment 0)

-- behind a cancelled request it is at most what that had left
abbrev pub slack_behind : {T : Type 0} → Tagging T → Bool → (left slack : T) → T
slack_behind ops cancelled left slack = if cancelled then ord_min ops.compare left slack else slack

-- at its arrival a tag less what it was compared with: t, and floor for P; without an R it is that of the previous R
abbrev pub slack_of : {T : Type 0} → Tagging T → Previous T → Tags T → (t floor : T) → Slack T
slack_of ops previous tags t floor = record {
  r = option_map_or (λ r. slack_behind ops previous.cancelled previous.slack.r (above ops r t)) tags.r previous.slack.r;
  l = slack_behind ops previous.cancelled previous.slack.l (above ops tags.l t);
  p = slack_behind ops previous.cancelled previous.slack.p (above ops tags.p floor);
}

-- ---- Adjustment: the P of all clients that are not idle are shifted, so that the least P is t

-- the tag less an amount, if that is a value
abbrev pub less : {T : Type 0} → Tagging T → T → T → T
less ops amount tag = unwrap_or (ops.minus tag amount) tag

abbrev pub has_less : {T : Type 0} → Tagging T → T → T → Bool
has_less ops amount tag = is_some (ops.minus tag amount)

-- the P of a request less an amount
abbrev pub less_share : {T : Type 0} → Tagging T → T → QueuedRequest T → QueuedRequest T
less_share ops amount r = record r { tags = record (r.tags) { p = less ops amount r.tags.p } }

-- each P of a client less an amount
abbrev pub less_shares : {T : Type 0} → Tagging T → T → PlainClient T → PlainClient T
less_shares ops amount c = record c {
  previous = record (c.previous) { p = less ops amount c.previous.p };
  requests = map (less_share ops amount) c.requests;
}

-- each of these is a value
abbrev pub has_less_shares : {T : Type 0} → Tagging T → T → PlainClient T → Bool
has_less_shares ops amount c = list_all (λ r. has_less ops amount r.tags.p) c.requests && has_less ops amount c.previous.p

abbrev pub shifted_client : {T : Type 0} → Tagging T → T → PlainClient T → PlainClient T
shifted_client ops amount c = if c.idle then c else less_shares ops amount c

abbrev pub client_can_shift : {T : Type 0} → Tagging T → T → PlainClient T → Bool
client_can_shift ops amount c = c.idle || has_less_shares ops amount c

-- the least P less t; with nothing queued there is no shift
abbrev pub shift_from : {T : Type 0} → Tagging T → T → Option (Found T) → Result (Option T) Refusal
shift_from ops t None = Ok None
shift_from ops t (Some least) = in_range (ops.minus least.request.tags.p t) >>= λ amount. Ok (Some amount)

-- there is no adjustment under Virtual
abbrev pub adjusts : Shares → Bool
adjusts Clock = true
adjusts Virtual = false

abbrev pub shift_of : {T : Type 0} → Tagging T → Shares → List (PlainClient T) → PlainClient T → T → Result (Option T) Refusal
shift_of ops shares clients arriving t = if adjusts shares && arriving.idle then shift_from ops t (best_of_all ops by_weight is_any clients) else Ok None

-- without an amount there is no shift
abbrev pub can_shift_by : {T : Type 0} → Tagging T → Option T → List (PlainClient T) → Bool
can_shift_by ops None clients = true
can_shift_by ops (Some amount) clients = list_all (client_can_shift ops amount) clients

abbrev pub shifted_by : {T : Type 0} → Tagging T → Option T → List (PlainClient T) → List (PlainClient T)
shifted_by ops None clients = clients
shifted_by ops (Some amount) clients = map (shifted_client ops amount) clients

-- ---- Add

-- what an add brings: the shift of the others, and the tags and the slack of the request
pub record Addition (T : Type 0) : Type 0 where
  pub shift : Option T
  pub tags : Tags T
  pub slack : Slack T

-- the tags and the slack of a request that arrives at t
abbrev pub addition_with : {T : Type 0} → Tagging T → Option T → Previous T → (t floor : T) → Tags T → Addition T
addition_with ops shift previous t floor tags = record { shift = shift; tags = tags; slack = slack_of ops previous tags t floor }

-- what an add brings, whatever the limit
abbrev pub add_tags : {T : Type 0} → Tagging T → State T → ClientId → Params → T → Result (Addition T) Refusal
add_tags ops s id params t = do
  client ← ok_or (client_named id s.clients) Unknown
  _ ← refuse_if (nat_le max_requests (length (queued_requests s.clients))) QueueFull
  shift ← shift_of ops s.config.shares s.clients client t
  _ ← refuse_if (not (can_shift_by ops shift s.clients)) Range
  tags ← assigned ops s.config.hz client params t (share_floor ops s t)
  Ok (addition_with ops shift client.previous t (share_floor ops s t) tags)

-- the least whole number that is not below the tag, as a moment
abbrev pub moment_of : ℤ → ℕ
moment_of (pos n) = n
moment_of (negsuc n) = 0

-- Under Reject, a request that comes at t has to be within its limit `threshold` ticks later. (A tag is past a whole number
-- if its ceiling is.)
abbrev pub is_over_limit : {T : Type 0} → Tagging T → AtLimit → ℕ → T → Bool
is_over_limit ops Wait t l = false
is_over_limit ops Allow t l = false
is_over_limit ops (Reject threshold) t l = nat_lt (t + threshold) (moment_of (ops.ceil l))

-- the tests of an add, in order, and what it brings
abbrev pub can_add : {T : Type 0} → Tagging T → State T → ClientId → Params → ℕ → Result (Addition T) Refusal
can_add ops s id params t = do
  addition ← add_tags ops s id params (ops.of_moment t)
  _ ← refuse_if (is_over_limit ops s.config.at_limit t addition.tags.l) OverLimit
  Ok addition

abbrev pub after_arrival : {T : Type 0} → QueuedRequest T → ℕ → PlainClient T → PlainClient T
after_arrival request t c = record c {
  previous = previous_after request.tags request.slack c.previous;
  idle = false;
  last_arrival = t;
  requests = c.requests ++ request ∷ [];
}

-- the state after a shift and an arrival
abbrev pub queued : {T : Type 0} → Tagging T → State T → Option T → ClientId → QueuedRequest T → ℕ → State T
queued ops s shift id request t = record s {
  clients = change_client id (after_arrival request t) (shifted_by ops shift s.clients);
  last_moment = t;
  progress = progress_added ops s.config.shares (is_nothing_queued s.clients) request.tags.p s.progress;
}

abbrev pub request_of : {T : Type 0} → Token → ℕ → Addition T → QueuedRequest T
request_of token cost addition = record { token = token; cost = cost; tags = addition.tags; slack = addition.slack }

abbrev pub added : {T : Type 0} → Tagging T → State T → ClientId → Token → Params → ℕ → Outcome T
added ops s id token params t =
    can_add ops s id params t
    >>= λ addition. Ok (queued ops s addition.shift id (request_of token params.cost addition) t, Tagged addition.tags)

-- ---- Reduction: a Priority grant takes a spacing for each unit of its cost off the R tags of that client

-- the R of a request less an amount
abbrev pub less_reservation : {T : Type 0} → Tagging T → T → QueuedRequest T → QueuedRequest T
less_reservation ops amount r = record r { tags = record (r.tags) { r = option_map (less ops amount) r.tags.r } }

-- each R of a client less an amount
abbrev pub less_reservations : {T : Type 0} → Tagging T → T → PlainClient T → PlainClient T
less_reservations ops amount c = record c {
  previous = record (c.previous) { r = less ops amount c.previous.r };
  requests = map (less_reservation ops amount) c.requests;
}

-- each of these is a value
abbrev pub has_less_reservations : {T : Type 0} → Tagging T → T → PlainClient T → Bool
has_less_reservations ops amount c = list_all (λ r. option_map_or (has_less ops amount) r.tags.r true) c.requests && has_less ops amount c.previous.r

-- the rate at the grant counts; without a reservation nothing is subtracted
abbrev pub reduction_at : {T : Type 0} → Tagging T → ℕ → Option ℕ → ℕ → Result (Option T) Refusal
reduction_at ops hz None cost = Ok None
reduction_at ops hz (Some rate) cost = do
  spacing ← in_range (ops.spacing hz rate)
  amount ← in_range (ops.steps spacing cost)
  Ok (Some amount)

-- without an amount there is no reduction
abbrev pub can_reduce_by : {T : Type 0} → Tagging T → Option T → PlainClient T → Bool
can_reduce_by ops None c = true
can_reduce_by ops (Some amount) c = has_less_reservations ops amount c

abbrev pub reduced_by : {T : Type 0} → Tagging T → Option T → PlainClient T → PlainClient T
reduced_by ops None c = c
reduced_by ops (Some amount) c = less_reservations ops amount c

-- ---- Pull

-- the client without the request that was found
abbrev pub with_requests : {T : Type 0} → List (QueuedRequest T) → PlainClient T → PlainClient T
with_requests requests c = record c { requests = requests }

abbrev pub granted : {T : Type 0} → Found T → PhaseType → Bool → Reply T
granted found phase beyond = Granted found.client.id found.request.token phase beyond found.request.cost

-- the test of a reduction, and the amount that is taken off
abbrev pub can_grant : {T : Type 0} → Tagging T → ℕ → Found T → Result (Option T) Refusal
can_grant ops hz found = do
  amount ← reduction_at ops hz found.client.info.reservation found.request.cost
  _ ← refuse_if (not (can_reduce_by ops amount (with_requests found.others found.client))) Range
  Ok amount

-- the client that was found, without its request and reduced by an amount
abbrev pub after_grant : {T : Type 0} → Tagging T → Found T → Option T → PlainClient T
after_grant ops found amount = reduced_by ops amount (with_requests found.others found.client)

-- the state at t with the client's record after a grant
abbrev pub taken_out : {T : Type 0} → Tagging T → State T → ℕ → Found T → PhaseType → Option T → State T
taken_out ops s t found phase amount = record s {
  clients = change_client found.client.id (λ c. after_grant ops found amount) s.clients;
  last_moment = t;
  progress = progress_granted ops phase s.config.shares found.request.tags.p s.progress;
}

abbrev pub grant_priority : {T : Type 0} → Tagging T → State T → ℕ → Found T → Bool → Outcome T
grant_priority ops s t found beyond =
    can_grant ops s.config.hz found
    >>= λ amount. Ok (taken_out ops s t found phases.Priority amount, granted found phases.Priority beyond)

-- the earlier of two moments, of which one may be absent
abbrev pub earlier : ℕ → Option ℕ → ℕ
earlier m None = m
earlier m (Some n) = min m n

-- the least whole number at which the request is early or free
abbrev pub due_moment : {T : Type 0} → Tagging T → QueuedRequest T → ℕ
due_moment ops r = earlier (moment_of (ops.ceil r.tags.l)) (option_map (λ tag. moment_of (ops.ceil tag)) r.tags.r)

-- the least whole number at which some request is early or free
abbrev pub least_due : {T : Type 0} → Tagging T → QueuedRequest T → List (QueuedRequest T) → ℕ
least_due ops x xs = fold (λ m r. min m (due_moment ops r)) (due_moment ops x) xs

abbrev pub grant_found : {T : Type 0} → Tagging T → State T → ℕ → Bool → Option (Found T) → Outcome T
grant_found ops s t beyond None = Ok (record s { last_moment = t }, Nothing)
grant_found ops s t beyond (Some found) = grant_priority ops s t found beyond

-- no request is early or free, and something is queued
abbrev pub at_limit : {T : Type 0} → Tagging T → State T → ℕ → AtLimit → QueuedRequest T → List (QueuedRequest T) → Outcome T
at_limit ops s t Wait x xs = Ok (record s { last_moment = t }, Later (least_due ops x xs))
at_limit ops s t (Reject threshold) x xs = Ok (record s { last_moment = t }, Later (least_due ops x xs))
at_limit ops s t Allow x xs = grant_found ops s t true (best_of_all ops by_weight is_any s.clients)

abbrev pub nothing_due : {T : Type 0} → Tagging T → State T → ℕ → List (QueuedRequest T) → Outcome T
nothing_due ops s t [] = Ok (record s { last_moment = t }, Nothing)
nothing_due ops s t (x ∷ xs) = at_limit ops s t s.config.at_limit x xs

abbrev pub pulled_free : {T : Type 0} → Tagging T → State T → ℕ → Option (Found T) → Outcome T
pulled_free ops s t (Some found) = grant_priority ops s t found false
pulled_free ops s t None = nothing_due ops s t (queued_requests s.clients)

abbrev pub pulled_early : {T : Type 0} → Tagging T → State T → ℕ → Option (Found T) → Outcome T
pulled_early ops s t (Some found) = Ok (taken_out ops s t found phases.Reservation None, granted found phases.Reservation false)
pulled_early ops s t None = pulled_free ops s t (best_of_all ops by_weight (is_free ops t) s.clients)

-- the best by R of the early ones, else the best by P of the free ones, else as the configuration says
abbrev pub pulled : {T : Type 0} → Tagging T → State T → ℕ → Outcome T
pulled ops s t = pulled_early ops s t (best_of_all ops by_reservation (is_early ops t) s.clients)

-- ---- Remove

abbrev pub can_remove : {T : Type 0} → State T → ClientId → Result (PlainClient T) Refusal
can_remove s id = ok_or (client_named id s.clients) Unknown

abbrev pub removed : {T : Type 0} → State T → ClientId → Outcome T
removed s id =
    can_remove s id
    >>= λ client. Ok (record s { clients = change_client id (with_requests []) s.clients }, Removed (length client.requests))

-- ---- Clean

-- nothing is queued, and the last arrival is at least this old
abbrev pub is_stale : {T : Type 0} → ℕ → ℕ → PlainClient T → Bool
is_stale t age c = not (is_busy c) && nat_le age (t - c.last_arrival)

abbrev pub is_erased : {T : Type 0} → State T → ℕ → PlainClient T → Bool
is_erased s t = is_stale t s.config.erase_age

-- it was not idle before, and is not erased
abbrev pub is_idled : {T : Type 0} → State T → ℕ → PlainClient T → Bool
is_idled s t c = not (is_erased s t c) && is_stale t s.config.idle_age c && not c.idle

-- idle if its last arrival is that old, or if it was idle before
abbrev pub with_idle_mark : {T : Type 0} → State T → ℕ → PlainClient T → PlainClient T
with_idle_mark s t c = record c { idle = c.idle || is_stale t s.config.idle_age c }

abbrev pub cleaned : {T : Type 0} → State T → ℕ → Outcome T
cleaned s t = Ok (
  record s { clients = map (with_idle_mark s t) (filter (λ c. not (is_erased s t c)) s.clients); last_moment = t },
  Cleaned (length (filter (is_idled s t) s.clients)) (length (filter (is_erased s t) s.clients)),
)

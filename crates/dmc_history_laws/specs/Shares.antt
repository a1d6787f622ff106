-- What shares in virtual time mean for whole histories: no client has a credit, and none has a debt.
use Rattle.std.specs.Prelude.{◌≡◌, ℕ, suc, ◌<◌, ◌≤◌, min, true, false, Bool, List, Some, length, take, slice_get, pos, ◌*ℤ◌, ◌≤ℤ◌}
use Rattle.std.specs.Option.{option_map}
use Rattle.dmc_types.specs.Values.{Setting}
use Rattle.dmc_types.specs.declared.ids.ClientId.{ClientId}
use Rattle.dmc_types.specs.declared.config.PhaseType.TheVariants.{Priority}
use Rattle.dmc_types.specs.declared.command.Command.TheVariants.{Pull}
use Rattle.dmc_tag.specs.Tag.{Tagging, Fraction, ratio, sum_of as plus_of, multiple_of}
use Rattle.dmc_tag.specs.Order.{AtMost}
use Rattle.dmc_tag.specs.Best.{is_free}
use Rattle.dmc_tag.specs.State.{State, client_named, requests_of, has_queued, effective}
use Rattle.dmc_tag.specs.Replay.{after, replays}
use Rattle.dmc_tag.specs.declared.event.Event.{Event}
use Rattle.dmc_tag.specs.declared.plain.QueuedRequest.{QueuedRequest}
use Rattle.dmc_tag.specs.declared.reply.Tags.{Tags}
use Rattle.dmc_tag.specs.declared.reply.Reply.TheVariants.{Tagged, Granted}
use Rattle.dmc_history_laws.specs.Bounds.{Arrives, AllKeep, IsFirstThatWaits, NeverCancelled, arrivals, departures, between, given_back, sum_of}

-- the state before the event with this number
abbrev pub before : {T : Type 0} → Tagging T → Setting → List (Event T) → ℕ → State T
before ops config history number = after ops config (take number history)

-- the client's queued request that arrived first, before the event with this number
abbrev pub IsFirst : {T : Type 0} → Tagging T → Setting → List (Event T) → ℕ → ClientId → QueuedRequest T → Type 0
IsFirst ops config history number id request = slice_get (requests_of id (before ops config history number).clients) 0 ≡ Some request

-- ---- which events are meant

-- The event with this number is an accepted add of the client, and these are the tags of its request.
pub record IsArrival {T : Type 0} (history : List (Event T)) (number : ℕ) (id : ClientId) (tags : Tags T) : Type 0 where
  pub event : Event T
  pub here : slice_get history number ≡ Some event
  pub arrives : Arrives id event.command event.reply
  pub tags_are : event.reply ≡ Tagged tags

-- The event with this number is a pull that grants the client's first request by weight, within its limit or beyond.
pub record IsWeightGrant {T : Type 0} (ops : Tagging T) (config : Setting) (history : List (Event T)) (number : ℕ) (id : ClientId) (request : QueuedRequest T) : Type 0 where
  pub event : Event T
  pub here : slice_get history number ≡ Some event
  pub moment : ℕ
  pub pulls : event.command ≡ Pull moment
  pub beyond : Bool
  pub grants : event.reply ≡ Granted id request.token Priority beyond request.cost
  pub first : IsFirst ops config history number id request

-- ---- no credit

-- The P of a request that arrives is at least the P of every request that was granted by weight before.
abbrev pub NoCredit : {T : Type 0} → Tagging T → Setting → Type 0
NoCredit {T} ops config =
    (history : List (Event T)) → replays ops config history
    → (granted arrived : ℕ) (client other : ClientId) (request : QueuedRequest T) (tags : Tags T)
    → IsWeightGrant ops config history granted client request → IsArrival history arrived other tags → granted < arrived
    → AtMost ops request.tags.p tags.p

-- ---- no debt

-- the client's weight
abbrev pub HasWeight : {T : Type 0} → ClientId → ℕ → State T → Type 0
HasWeight id weight s = option_map (λ c. c.info.weight) (client_named id s.clients) ≡ Some weight

-- Client b asks all the time, beside client a, from its request h on, which is queued at the event `joined`. After it two requests
-- of a are granted by weight, first x and then y; or x is y. From h on to the grant of y, b always has a queued request, and at each
-- grant by weight that is not beyond a limit, the limit of b's first one lets it. No Register and no Update of b is accepted after h
-- was queued, and none of a after the first of x and h was queued. `Is` says by the events before a grant how many arrivals of a came
-- before the one that is granted.
pub record CompetesBy {T : Type 0} (Is : ClientId → ℕ → List (Event T) → Type 0) (ops : Tagging T) (config : Setting) (history : List (Event T)) (a b : ClientId) : Type 0 where
  pub joined : ℕ
  pub h : Tags T
  pub h_arrives : IsArrival history joined b h
  -- the add of x, which may be before that of h
  pub came : ℕ
  pub x_tags : Tags T
  pub x_arrives : IsArrival history came a x_tags
  -- the grants of x and of y
  pub first : ℕ
  pub x : QueuedRequest T
  pub x_granted : IsWeightGrant ops config history first a x
  pub x_is : Is a (length (arrivals a (take came history))) (take first history)
  pub last : ℕ
  pub y : QueuedRequest T
  pub y_granted : IsWeightGrant ops config history last a y
  pub later : joined < first
  pub in_order : first ≤ last
  pub asks : (number : ℕ) → joined < number → number ≤ last → has_queued b (before ops config history number).clients ≡ true
  pub within : (number : ℕ) (client : ClientId) (request front : QueuedRequest T) (grant : IsWeightGrant ops config history number client request)
      → joined < number → number ≤ last → grant.beyond ≡ false → IsFirst ops config history number b front
      → is_free ops (effective (before ops config history number) grant.moment) front ≡ true
  pub b_kept : AllKeep b (between joined last history)
  pub a_kept : AllKeep a (between (min came joined) last history)

-- as many as have left by then
abbrev pub AreThoseThatLeft : {T : Type 0} → ClientId → ℕ → List (Event T) → Type 0
AreThoseThatLeft id count events = count ≡ departures id events

-- as many as came before the first of those that wait by then
abbrev pub AreBeforeThoseThatWait : {T : Type 0} → ClientId → ℕ → List (Event T) → Type 0
AreBeforeThoseThatWait id count events = IsFirstThatWaits id (suc count) events

-- of clients that were never cancelled
abbrev pub Competes : {T : Type 0} → Tagging T → Setting → List (Event T) → (a b : ClientId) → Type 0
Competes ops config history a b = CompetesBy AreThoseThatLeft ops config history a b

-- of clients that may have been cancelled
abbrev pub WaitingCompetes : {T : Type 0} → Tagging T → Setting → List (Event T) → (a b : ClientId) → Type 0
WaitingCompetes ops config history a b = CompetesBy AreBeforeThoseThatWait ops config history a b

-- the arrivals of a client are numbered from 1: the first one that is queued before an event, and the last one that came by then
abbrev pub first_queued : {T : Type 0} → ClientId → ℕ → List (Event T) → ℕ
first_queued id number history = suc (departures id (take number history))

abbrev pub last_arrived : {T : Type 0} → ClientId → ℕ → List (Event T) → ℕ
last_arrived id number history = length (arrivals id (take (suc number) history))

-- the fraction is at most the other
abbrev pub IsAtMost : Fraction → Fraction → Type 0
IsAtMost f g = (f.numer *ℤ pos g.denom) ≤ℤ (g.numer *ℤ pos f.denom)

-- the fraction that is this many spacings of a weight after a tag
abbrev pub spaced_after : ℕ → ℕ → ℕ → Fraction → Fraction
spaced_after hz weight count tag = plus_of tag (multiple_of count (ratio hz weight))

-- Of two clients of which no request was taken back: the P of x, after a's deltas behind x up to y, is at most the P of h, after
-- b's deltas behind h up to its first request when y is granted (none, if that is before h):
-- hz/w_a * (deltas of a) <= hz/w_b * (deltas of b) + (P of h - P of x).
abbrev pub NoDebt : {T : Type 0} → Tagging T → (T → Fraction) → Setting → Type 0
NoDebt {T} ops fraction config =
    (history : List (Event T)) → replays ops config history
    → (a b : ClientId) (w_a w_b : ℕ) (c : Competes ops config history a b)
    → NeverCancelled a history → NeverCancelled b history
    → HasWeight a w_a (before ops config history (suc c.joined)) → HasWeight b w_b (before ops config history (suc c.joined))
    → IsAtMost
    (spaced_after config.hz w_a (sum_of (λ p. p.delta) (first_queued a c.first history) (first_queued a c.last history) (arrivals a history)) (fraction c.x.tags.p))
    (spaced_after config.hz w_b (sum_of (λ p. p.delta) (last_arrived b c.joined history) (first_queued b c.last history) (arrivals b history)) (fraction c.h.p))

-- Of any two clients, whatever was taken back, with a_k and b_m the first that wait of both when y is granted: what a Cancel in the
-- form Others took out between x and y counts against a's deltas:
-- hz/w_a * (deltas of a - G) <= hz/w_b * (deltas of b) + (P of h - P of x).
abbrev pub NoDebtWithCancels : {T : Type 0} → Tagging T → (T → Fraction) → Setting → Type 0
NoDebtWithCancels {T} ops fraction config =
    (history : List (Event T)) → replays ops config history
    → (a b : ClientId) (w_a w_b k m : ℕ) (c : WaitingCompetes ops config history a b)
    → HasWeight a w_a (before ops config history (suc c.joined)) → HasWeight b w_b (before ops config history (suc c.joined))
    → IsFirstThatWaits a k (take c.last history) → IsFirstThatWaits b m (take c.last history)
    → IsAtMost
    (spaced_after config.hz w_a (sum_of (λ p. p.delta) (last_arrived a c.came history) k (arrivals a history)) (fraction c.x.tags.p))
    (spaced_after config.hz w_a (given_back a (last_arrived a c.came history) k (take c.last history)) (spaced_after config.hz w_b (sum_of (λ p. p.delta) (last_arrived b c.joined history) m (arrivals b history)) (fraction c.h.p)))

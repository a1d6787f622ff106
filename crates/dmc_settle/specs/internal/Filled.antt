-- What settling fills into a row.
use Rattle.std.specs.Prelude.{◌≡◌, ℕ, ◌+◌, ◌<◌, ◌≤◌, ◌^◌, List, [], length, slice_index_or, sum_by}
use Rattle.dmc_types.specs.Limits.{max_events, max_scene_clients}
use Rattle.dmc_types.specs.declared.ids.ServerId.{ServerId}
use Rattle.dmc_types.specs.declared.config.PhaseType.{PhaseType}
use Rattle.dmc_types.specs.declared.config.PhaseType.TheVariants.{Reservation, Priority}
use Rattle.dmc_tag.specs.Tag.{Tagging}
use Rattle.dmc_tag.specs.State.{queued_requests}
use Rattle.dmc_tag.specs.Replay.{after, replays}
use Rattle.dmc_tag.specs.declared.event.Event.{Event}
use Rattle.dmc_tracker.specs.declared.event.TrackerEvent.{TrackerEvent}
use Rattle.dmc_tracker.specs.TrackerList.{completions, stamps, sent, responses, response_costs}
use Rattle.dmc_ledger.specs.Accounts.{total_of}
use Rattle.dmc_ledger.specs.Bundles.{ClientSide, ServerSide, StampHoldings, PhaseHoldings, PhaseAccounts}
use Rattle.dmc_tlock.specs.BookState as tracker_book
use Rattle.dmc_tlock.specs.BookState.{no_side, tills_at}
use Rattle.dmc_tlock.specs.Settling as tracker_settling
use Rattle.dmc_tlock.specs.declared.settled.StampsHeld.{StampsHeld}
use Rattle.dmc_book.specs.BookState.{BookState, PassState, no_desk}
use Rattle.dmc_book.specs.Counts.{count, grants_added, phase_grants}
use Rattle.dmc_book.specs.Settling.{AreOwn}
use Rattle.dmc_settle.specs.internal.Places.{desk_of}
use Rattle.dmc_settle.specs.Left.{ArePaired, ArePhaseTillsOf}
use Rattle.dmc_settle.specs.Reports.{all_responses, stamps_left, units_left}
use Rattle.dmc_settle.specs.declared.clients.TakenIn.{TakenIn}
use Rattle.dmc_settle.specs.declared.servers.Granted.{Granted}
use Rattle.dmc_settle.specs.declared.report.ClientReport.{ClientReport}
use Rattle.dmc_settle.specs.declared.report.ServerReport.{ServerReport}
use Rattle.dmc_settle.specs.declared.report.StampsLeft.{StampsLeft}
use Rattle.dmc_settle.specs.declared.report.UnitsHeld.{UnitsHeld}

-- ---- a server's

pub record ServerNumbers (T : Type 0) : Type 0 where
  pub reservation : ℕ
  pub priority : ℕ
  pub left : ℕ
  pub held : UnitsHeld
  pub events : List (Event T)

abbrev pub server_numbers : {T : Type 0} → ServerReport T → ServerNumbers T
server_numbers r = record {
  reservation = r.reservation;
  priority = r.priority;
  left = r.left;
  held = r.held;
  events = r.history.events;
}

abbrev pub no_server_numbers : {T : Type 0} → ServerNumbers T
no_server_numbers = record { reservation = 0; priority = 0; left = 0; held = record { reservation = 0; priority = 0 }; events = [] }

-- a book and its own passes
pub record IsReadyServer {T : Type 0} (book : BookState T) (passes : List PassState) : Type 0 where
  pub own : AreOwn book.workers book.desks passes
  pub whole : book.first ≡ 0
  pub few : length book.desks ≤ max_scene_clients

-- what the passes hold, over all clients
abbrev pub grants_left : List PassState → UnitsHeld
grants_left passes = record { reservation = units_left Reservation passes; priority = units_left Priority passes }

-- the grants of a book are of clients that have a desk
abbrev pub AreOfDesks : {T : Type 0} → BookState T → Type 0
AreOfDesks book = (phase : PhaseType) → sum_by (λ d. count (grants_added d.client phase) book.history) book.desks ≡ count (phase_grants phase) book.history

-- the numbers of a settled book
pub record AreServerNumbers {T : Type 0} (ops : Tagging T) (book : BookState T) (passes : List PassState) (n : ServerNumbers T) : Type 0 where
  pub events : n.events ≡ book.history
  pub replays : replays ops book.config book.history
  pub reservation : n.reservation ≡ count (phase_grants Reservation) book.history
  pub priority : n.priority ≡ count (phase_grants Priority) book.history
  pub left : n.left ≡ length (queued_requests (after ops book.config book.history).clients)
  pub held : n.held ≡ grants_left passes
  pub of_desks : AreOfDesks book

-- what desks total and have gathered of grants
abbrev pub granted_at : List ClientSide → Granted
granted_at desks = record {
  reservation = sum_by (λ d. total_of d.books.reservation.grants) desks;
  priority = sum_by (λ d. total_of d.books.priority.grants) desks;
  held = record {
    reservation = sum_by (λ d. d.books.reservation.grants.gathered) desks;
    priority = sum_by (λ d. d.books.priority.grants.gathered) desks;
  };
}

-- and with one desk more
abbrev pub with_desk : Granted → ClientSide → Granted
with_desk g d = record {
  reservation = g.reservation + total_of d.books.reservation.grants;
  priority = g.priority + total_of d.books.priority.grants;
  held = record {
    reservation = g.held.reservation + d.books.reservation.grants.gathered;
    priority = g.held.priority + d.books.priority.grants.gathered;
  };
}

-- none of these numbers is past a bound
pub record AreWithin (n : ℕ) (g : Granted) : Type 0 where
  pub reservation : g.reservation ≤ n
  pub priority : g.priority ≤ n
  pub held_reservation : g.held.reservation ≤ n
  pub held_priority : g.held.priority ≤ n

-- the grants of a desk are no more than a history has events
pub record AreFewGrants (d : ClientSide) : Type 0 where
  pub reservation : total_of d.books.reservation.grants ≤ max_events
  pub priority : total_of d.books.priority.grants ≤ max_events

-- ---- a client's

pub record ClientNumbers : Type 0 where
  pub sent : ℕ
  pub completed : ℕ
  pub cost : ℕ
  pub held : StampsLeft

abbrev pub client_numbers : ClientReport → ClientNumbers
client_numbers r = record { sent = r.sent; completed = r.completed; cost = r.cost; held = r.held }

abbrev pub no_client_numbers : ClientNumbers
no_client_numbers = record { sent = 0; completed = 0; cost = 0; held = record { stamps = 0; delta = 0; rho = 0 } }

-- the tills of a phase are of its books, of which no other till is open
pub record IsLastPhase (books : PhaseAccounts) (tills : PhaseHoldings) : Type 0 where
  pub tills_of : ArePhaseTillsOf tills books
  pub grants : books.grants.open_tills ≡ 1
  pub cost : books.cost.open_tills ≡ 1

-- two desks of a pair, of whose grant books no other till is open
pub record IsLastPair (d : ClientSide) (t : ServerSide) : Type 0 where
  pub paired : ArePaired d t
  pub reservation : IsLastPhase d.books.reservation t.held.reservation
  pub priority : IsLastPhase d.books.priority t.held.priority

-- how many responses a desk holds, of both phases
abbrev pub responses_held : ServerSide → ℕ
responses_held t = t.held.reservation.grants.amount + t.held.priority.grants.amount

-- a tracker book that released nothing and its own pass, and the settled desks of its client
pub record IsReadyClient (desks : List (List ClientSide)) (c : ℕ) (tracker : tracker_book.BookState) (pass : List StampHoldings) : Type 0 where
  pub own : tracker_settling.IsOwn pass tracker.desks
  pub whole : tracker.first ≡ 0
  pub as_many : length tracker.desks ≡ length desks
  pub within : (s : ℕ) → s < length desks → c < length (slice_index_or desks s [])
  pub pairs : (s : ℕ) → s < length desks → IsLastPair (desk_of desks s c) (slice_index_or tracker.desks s no_side)

-- the same once the tracker book is settled: no other till is open of any book of the pair
pub record IsClosing (d : ClientSide) (t : ServerSide) : Type 0 where
  pub last : IsLastPair d t
  pub stamps : t.books.stamps.open_tills ≡ 1
  pub delta : t.books.delta.open_tills ≡ 1
  pub rho : t.books.rho.open_tills ≡ 1
  pub few_stamps : total_of t.books.stamps ≤ 2 ^ 31
  pub few_responses : responses_held t ≤ 2 ^ 31

-- what the desks of a client took in: stamps at the servers' queues, and responses at its tracker
abbrev pub with_pair : TakenIn → ClientSide → ServerSide → TakenIn
with_pair n d t = record { sent = n.sent + d.held.stamps.amount; completed = n.completed + responses_held t }

-- what was left in a pass, summed
abbrev pub with_held : StampsLeft → StampsHeld → StampsLeft
with_held n h = record { stamps = n.stamps + h.stamps; delta = n.delta + h.delta; rho = n.rho + h.rho }

-- what was left for a server: no more stamps than a list has entries, and no more of their deltas and rhos than a tracker counts
pub record IsHeldWithin (h : StampsHeld) : Type 0 where
  pub stamps : h.stamps ≤ 2 ^ 31
  pub delta : h.delta ≤ 2 ^ 62
  pub rho : h.rho ≤ 2 ^ 62

-- a sum to which what was left for a server can be added
pub record AreLeftWithin (h : StampsLeft) : Type 0 where
  pub stamps : h.stamps ≤ 2 ^ 40
  pub delta : h.delta ≤ 2 ^ 80
  pub rho : h.rho ≤ 2 ^ 80

abbrev pub all_held : List StampsHeld → StampsLeft
all_held held = record { stamps = sum_by (λ h. h.stamps) held; delta = sum_by (λ h. h.delta) held; rho = sum_by (λ h. h.rho) held }

-- the held tills of a phase are all that its books issued beside what was gathered
pub record IsAuditedPhase (books : PhaseAccounts) (tills : PhaseHoldings) : Type 0 where
  pub grants : books.grants.gathered + tills.grants.amount ≡ total_of books.grants
  pub cost : books.cost.gathered + tills.cost.amount ≡ total_of books.cost

-- each held till is all that its book issued beside what was gathered
pub record IsAudited (d : ClientSide) (t : ServerSide) : Type 0 where
  pub stamps : t.books.stamps.gathered + d.held.stamps.amount ≡ total_of t.books.stamps
  pub delta : t.books.delta.gathered + d.held.delta.amount ≡ total_of t.books.delta
  pub rho : t.books.rho.gathered + d.held.rho.amount ≡ total_of t.books.rho
  pub reservation : IsAuditedPhase d.books.reservation t.held.reservation
  pub priority : IsAuditedPhase d.books.priority t.held.priority

-- the same of a phase of a client at a server s, by the tracker's list
pub record IsBalancedPhase (s : ServerId) (phase : PhaseType) (events : List TrackerEvent) (books : PhaseAccounts) : Type 0 where
  pub grants : responses s phase events + books.grants.gathered ≡ total_of books.grants
  pub cost : response_costs s phase events + books.cost.gathered ≡ total_of books.cost

-- the same of a client at a server, by the tracker's list and what was left in the pass
pub record IsBalancedPair (d : ClientSide) (s : ServerId) (events : List TrackerEvent) (tills : StampHoldings) : Type 0 where
  pub stamps : d.held.stamps.amount + tills.stamps.amount ≡ stamps s events
  pub delta : d.held.delta.amount + tills.delta.amount ≡ (sent s events).delta
  pub rho : d.held.rho.amount + tills.rho.amount ≡ (sent s events).rho
  pub reservation : IsBalancedPhase s Reservation events d.books.reservation
  pub priority : IsBalancedPhase s Priority events d.books.priority

-- the stamps that the desks of a client took in, over all servers
abbrev pub stamps_taken : List (List ClientSide) → ℕ → ℕ
stamps_taken desks c = sum_by (λ ds. (slice_index_or ds c no_desk).held.stamps.amount) desks

-- the numbers of a settled tracker book
pub record AreClientNumbers (desks : List (List ClientSide)) (c : ℕ) (tracker : tracker_book.BookState) (pass : List StampHoldings) (n : ClientNumbers) : Type 0 where
  pub sent : n.sent ≡ stamps_taken desks c
  pub completed : n.completed ≡ all_responses (length tracker.desks) tracker.events
  pub cost : n.cost ≡ (completions tracker.events).delta
  pub held : n.held ≡ stamps_left pass

-- each pair of a client
abbrev pub AreBalanced : List (List ClientSide) → ℕ → tracker_book.BookState → List StampHoldings → Type 0
AreBalanced desks c tracker pass = (s : ℕ) → s < length desks
    → IsBalancedPair (desk_of desks s c) (record { 0 = s }) tracker.events (tills_at pass (record { 0 = s }))

-- What holds of every tracker book: the invariant of its type.
use Rattle.std.specs.Prelude.{◌≡◌, ℕ, ◌+◌, ◌<◌, ◌≤◌, List, length, sum_by}
use Rattle.dmc_types.specs.Limits.{max_completions, max_events}
use Rattle.dmc_types.specs.Values.{Counts}
use Rattle.dmc_types.specs.declared.ids.ServerId.{ServerId}
use Rattle.dmc_types.specs.declared.config.Counting.{Counting}
use Rattle.dmc_types.specs.declared.config.Counting.TheVariants.{All, Others}
use Rattle.dmc_types.specs.declared.config.PhaseType.{PhaseType}
use Rattle.dmc_types.specs.declared.config.PhaseType.TheVariants.{Reservation, Priority}
use Rattle.dmc_tracker.specs.declared.event.TrackerEvent.{TrackerEvent}
use Rattle.dmc_tracker.specs.TrackerList.{plus, completions, others, stamps, stamp_costs, sent, responses, response_costs, IsTracked}
use Rattle.dmc_tracker.specs.Numbers.{numbers_at, RepresentsEvents}
use Rattle.dmc_shared.specs.Segmented.{max_released}
use Rattle.dmc_ledger.specs.Accounts.{Account, total_of}
use Rattle.dmc_ledger.specs.Bundles.{ServerSide, StampAccounts, PhaseHoldings, GrantHoldings}
use Rattle.dmc_tlock.specs.BookState.{BookState, desk_at}

-- what was sent to s, what was skipped and what is pending there, together: the completions; in `Others` the costs of the
-- stamps to s and the completions at the other servers
abbrev pub due : Counting → ServerId → List TrackerEvent → Counts
due All s events = completions events
due Others s events = plus (record { delta = stamp_costs s events; rho = stamp_costs s events }) (others s events)

-- sent plus skipped plus pending, of each server and in both counts
abbrev pub IsBalanced : BookState → Type 0
IsBalanced b = (s : ServerId) → s.0 < length b.desks
    → plus (plus (numbers_at b.tracker s).sent (numbers_at b.tracker s).skipped) (numbers_at b.tracker s).pending
    ≡ due b.tracker.counting s b.events

-- the book totals n, of which this amount is gathered, and this number of its tills is open
pub record IsBook (n back tills : ℕ) (book : Account) : Type 0 where
  pub total : total_of book ≡ n
  pub gathered : book.gathered ≡ back
  pub open_tills : book.open_tills ≡ tills

-- the stamp books of s total what the list sent to s. Nothing is gathered, and two tills of each are open: that of the
-- queue's desk, and that of the client's pass.
pub record AreStampBooks (events : List TrackerEvent) (s : ServerId) (books : StampAccounts) : Type 0 where
  pub stamps : IsBook (stamps s events) 0 2 books.stamps
  pub delta : IsBook (sent s events).delta 0 2 books.delta
  pub rho : IsBook (sent s events).rho 0 2 books.rho

-- the held tills of a phase of s are its responses, in number and in cost
pub record ArePhaseTills (events : List TrackerEvent) (s : ServerId) (phase : PhaseType) (tills : PhaseHoldings) : Type 0 where
  pub grants : tills.grants.amount ≡ responses s phase events
  pub cost : tills.cost.amount ≡ response_costs s phase events

pub record AreGrantTills (events : List TrackerEvent) (s : ServerId) (tills : GrantHoldings) : Type 0 where
  pub reservation : ArePhaseTills events s Reservation tills.reservation
  pub priority : ArePhaseTills events s Priority tills.priority

-- the desk of s
pub record IsDesk (client : ℕ) (events : List TrackerEvent) (s : ServerId) (desk : ServerSide) : Type 0 where
  pub its_client : desk.client ≡ client
  pub its_server : desk.server ≡ s.0
  pub books : AreStampBooks events s desk.books
  pub held : AreGrantTills events s desk.held

-- what the responses that a desk holds cost, of both phases
abbrev pub responded : ServerSide → ℕ
responded desk = desk.held.reservation.cost.amount + desk.held.priority.cost.amount

-- the tracker counts no further than its `most`, which is within the limit: the completions, and the deltas sent to each server
pub record AreCounted (b : BookState) : Type 0 where
  pub limit : b.tracker.most ≤ max_completions
  pub completions : (completions b.events).delta ≤ b.tracker.most
  pub sent : (s : ServerId) → s.0 < length b.desks → (sent s b.events).delta ≤ b.tracker.most

-- the two sums; each stamp of the list carries what the list demands; the tracker's numbers are those of the list, and within
-- its `most`; the desk of each server; the desks hold all completions, so each response is of a server that has a desk; and not
-- too many entries were released, or are kept; and some may be kept
pub record IsConsistent (b : BookState) : Type 0 where
  pub balanced : IsBalanced b
  pub tracked : IsTracked b.tracker.counting b.events
  pub represents : RepresentsEvents b.tracker b.events
  pub counted : AreCounted b
  pub desks : (s : ServerId) → s.0 < length b.desks → IsDesk b.client b.events s (desk_at b.desks s)
  pub servers : length b.desks ≡ length b.tracker.servers
  pub completed : (completions b.events).delta ≡ sum_by responded b.desks
  pub released : b.first ≤ length b.events
  pub few : b.first ≤ max_released
  pub within : length b.events ≤ b.first + b.max_events
  pub some : 0 < b.max_events
  pub limit : b.max_events ≤ max_events

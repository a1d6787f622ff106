-- What holds of all accounts, and of every queue's book: the invariants of their types.
use Rattle.std.specs.Prelude.{◌≡◌, ℕ, ◌+◌, ◌*◌, ◌^◌, ◌<◌, ◌≤◌, ◌==◌, ◌⊎◌, nat_lt, true, false, List, [], ◌∷◌, drop, length, Option, Some, None, is_some, option_map, slice_index_or, ⊤}
use Rattle.std.specs.List.{AllByRecursion, list_any}
use Rattle.dmc_types.specs.Limits.{max_events, max_workers}
use Rattle.dmc_types.specs.Values.{Setting}
use Rattle.dmc_types.specs.declared.ids.ClientId.{ClientId}
use Rattle.dmc_types.specs.declared.config.PhaseType.{PhaseType}
use Rattle.dmc_types.specs.declared.config.PhaseType.TheVariants.{Reservation, Priority}
use Rattle.dmc_tag.specs.Tag.{Tagging}
use Rattle.dmc_tag.specs.State.{State}
use Rattle.dmc_tag.specs.Replay.{after, replays}
use Rattle.dmc_tag.specs.declared.event.Event.{Event}
use Rattle.dmc_shared.specs.Segmented.{max_released}
use Rattle.dmc_ledger.specs.Accounts.{Account, total_of}
use Rattle.dmc_ledger.specs.Bundles.{ClientSide, PhaseAccounts}
use Rattle.dmc_book.specs.BookState.{AccountsState, WorkerSide, no_desk}
use Rattle.dmc_book.specs.Counts.{CountedBook, accepted, max_added, one_if, count, counted_books, stamps_added, delta_added, rho_added, grant_in, grants_added, costs_added, grant_cost}
use Rattle.dmc_book.specs.Moves.{IsOpen, desk_place}
use Rattle.dmc_book.specs.PerCount.{WorkerCounts, EachCount}
use Rattle.dmc_book.specs.Settling.{IsSettledWorker}

-- The book totals what the events add. Nothing of it is gathered, and this number of its tills is open.
pub record IsCounted {T : Type 0} (adds : Event T → ℕ) (history : List (Event T)) (tills : ℕ) (book : Account) : Type 0 where
  pub total : total_of book ≡ count adds history
  pub gathered : book.gathered ≡ 0
  pub open_tills : book.open_tills ≡ tills

-- the same of a book of a worker, of which one till is open: that of the worker's pass
abbrev pub IsOpenBook : {T : Type 0} → List (Event T) → CountedBook T → Type 0
IsOpenBook history c = IsCounted c.adds (drop c.from history) 1 c.book

-- Each of the worker's books is such a one, and its sums of tokens were last renewed within the history.
pub record IsWorker {T : Type 0} (history : List (Event T)) (w : WorkerSide) : Type 0 where
  pub renewed : w.renewed ≤ length history
  pub books : EachCount (IsOpenBook history) (counted_books w)

-- A worker that was dismissed: what was gathered of its pass is all that was counted of it, and the pass reaches no desk.
pub record HasLeft {T : Type 0} (history : List (Event T)) (w : WorkerSide) : Type 0 where
  pub settled : IsSettledWorker history w
  pub renewed : w.renewed ≤ length history
  pub reach : w.reach ≡ 0

-- the books of a client's grants in a phase: of how many there are, and of what they cost
pub record ArePhaseCounted {T : Type 0} (client : ℕ) (phase : PhaseType) (history : List (Event T)) (tills : ℕ) (books : PhaseAccounts) : Type 0 where
  pub grants : IsCounted (grants_added client phase) history tills books.grants
  pub cost : IsCounted (costs_added client phase) history tills books.cost

-- the desk of a client: the stamps, deltas and rhos of its accepted adds, and the books of its grants, of which the held
-- till of the tracker's desk is open and one in each of these passes
pub record IsDesk {T : Type 0} (history : List (Event T)) (server passes : ℕ) (d : ClientSide) : Type 0 where
  pub its_server : d.server ≡ server
  pub stamps : d.held.stamps.amount ≡ count (stamps_added d.client) history
  pub delta : d.held.delta.amount ≡ count (delta_added d.client) history
  pub rho : d.held.rho.amount ≡ count (rho_added d.client) history
  pub reservation : ArePhaseCounted d.client Reservation history (1 + passes) d.books.reservation
  pub priority : ArePhaseCounted d.client Priority history (1 + passes) d.books.priority

-- how many workers' passes have tills of the desk at a place
abbrev pub reaching : ℕ → List WorkerSide → ℕ
reaching k [] = 0
reaching k (w ∷ ws) = one_if (nat_lt k w.reach) + reaching k ws

-- each is the desk of its client
abbrev pub AreDesks : {T : Type 0} → List (Event T) → ℕ → List WorkerSide → List ClientSide → Type 0
AreDesks history server workers desks = (k : ℕ) → k < length desks → IsDesk history server (reaching k workers) (slice_index_or desks k no_desk)

-- no two workers, and no two desks, of one number
abbrev pub AreWorkersApart : List WorkerSide → Type 0
AreWorkersApart [] = ⊤
AreWorkersApart (w ∷ ws) = AllByRecursion (λ other. (other.worker == w.worker) ≡ false) ws × AreWorkersApart ws

abbrev pub AreClientsApart : List ClientSide → Type 0
AreClientsApart [] = ⊤
AreClientsApart (d ∷ ds) = AllByRecursion (λ other. (other.client == d.client) ≡ false) ds × AreClientsApart ds

-- who is granted, or whose request is queued, if anyone's is, has a desk
abbrev pub HasDesk : List ClientSide → Option ClientId → Type 0
HasDesk desks None = ⊤
HasDesk desks (Some client) = is_some (desk_place client.0 desks) ≡ true

-- the worker of this number is enrolled
abbrev pub IsSeated : List WorkerSide → ℕ → Type 0
IsSeated workers worker = list_any (λ w. worker == w.worker) workers ≡ true

-- Sums of tokens grow faster than a history, since a token is any number up to 2^32-1. What they had grown to when events were
-- last released leaves them room for the events that are kept.
pub record AreTokensFit (first events : ℕ) (books : WorkerCounts Account) : Type 0 where
  pub tokens : total_of books.tokens + first * max_added ≤ 2 ^ 62 + events * max_added
  pub granted : total_of books.granted + first * max_added ≤ 2 ^ 62 + events * max_added

-- What all grants cost together grows as fast. What it had grown to when events were last released leaves the desks' books room
-- for the events that are kept.
abbrev pub DoesCostFit : {T : Type 0} → ℕ → List (Event T) → Type 0
DoesCostFit first history = count grant_cost history + first * max_added ≤ 2 ^ 62 + length history * max_added

-- Workers and desks count the history. Each client that it queues or grants a request of has a desk, and each worker whose call
-- it answers is enrolled. No total can pass the 2^63 of a book.
pub record AreConsistent {T : Type 0} (a : AccountsState T) : Type 0 where
  pub workers : AllByRecursion (λ w. IsWorker a.history w ⊎ HasLeft a.history w) a.workers
  pub desks : AreDesks a.history a.server a.workers a.desks
  pub reach : AllByRecursion (λ w. w.reach ≤ length a.desks) a.workers
  pub workers_apart : AreWorkersApart a.workers
  pub clients_apart : AreClientsApart a.desks
  pub granted : AllByRecursion (λ e. HasDesk a.desks (option_map (λ g. g.client) (grant_in e.reply))) a.history
  pub queued : AllByRecursion (λ e. HasDesk a.desks (option_map (λ s. s.0) (accepted e))) a.history
  pub seated : AllByRecursion (λ e. IsSeated a.workers e.worker.0) a.history
  pub tokens_fit : AllByRecursion (λ w. IsOpen w → AreTokensFit a.first (length a.history) w.books) a.workers
  pub cost_fits : DoesCostFit a.first a.history
  pub within : a.first ≤ length a.history
  pub few : a.first ≤ max_released
  pub limit : a.most ≤ a.first + max_events
  pub few_workers : length a.workers ≤ max_workers

-- The history replays, and the queue's state is the one after it.
pub record IsReplayed {T : Type 0} (ops : Tagging T) (queue : State T) (config : Setting) (history : List (Event T)) : Type 0 where
  pub state : queue ≡ after ops config history
  pub replaying : replays ops config history

-- none of the totals is past a bound
abbrev pub AreWithin : ℕ → WorkerCounts Account → Type 0
AreWithin n books = EachCount (λ book. total_of book ≤ n) books

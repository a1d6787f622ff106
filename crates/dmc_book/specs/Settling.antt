-- A queue's book that is settled.
use Rattle.std.specs.Prelude.{◌≡◌, ℕ, ◌+◌, ◌<◌, ◌≤◌, nat_lt, List, [], ◌∷◌, drop, length, slice_index_or, sum_by}
use Rattle.std.specs.List.{AllByRecursion}
use Rattle.dmc_types.specs.declared.config.PhaseType.{PhaseType}
use Rattle.dmc_types.specs.declared.config.PhaseType.TheVariants.{Reservation, Priority}
use Rattle.dmc_tag.specs.declared.event.Event.{Event}
use Rattle.dmc_ledger.specs.Accounts.{Account, after_closing, total_of}
use Rattle.dmc_ledger.specs.Bundles.{ClientSide, PhaseAccounts, PhaseHoldings, GrantAccounts, GrantHoldings}
use Rattle.dmc_ledger.specs.Moves.{ArePhaseOf, tills_in}
use Rattle.dmc_book.specs.declared.settled.Amounts.{Amounts}
use Rattle.dmc_book.specs.BookState.{BookState, PassState, WorkerSide, no_desk, no_unit, no_worker}
use Rattle.dmc_book.specs.Counts.{CountedBook, count, counted_books, one_if, stamps_added, delta_added, rho_added, grants_added, costs_added, phase_grants, phase_costs}
use Rattle.dmc_book.specs.Moves.{IsEnrolled}
use Rattle.dmc_book.specs.PerCount.{EachCount, map_counts}

-- ---- whose passes they are

-- the tills are of these grant books
pub record AreUnitsOf (tills : GrantHoldings) (books : GrantAccounts) : Type 0 where
  pub reservation : ArePhaseOf tills.reservation books.reservation
  pub priority : ArePhaseOf tills.priority books.priority

-- tills of the first desks' grant books, in the order of the desks
pub record AreDeskUnits (desks : List ClientSide) (units : List GrantHoldings) : Type 0 where
  pub within : length units ≤ length desks
  pub each : (k : ℕ) → k < length units → AreUnitsOf (slice_index_or units k no_unit) (slice_index_or desks k no_desk).books

-- the pass is of a worker here, and has tills of the grant books of each desk that the worker reaches
pub record IsOwn (workers : List WorkerSide) (desks : List ClientSide) (p : PassState) : Type 0 where
  pub enrolled : IsEnrolled workers p
  pub reach : length p.units ≡ (slice_index_or workers p.place no_worker).reach
  pub units : AreDeskUnits desks p.units

-- how many passes are open: one of each worker that was not dismissed
abbrev pub open_passes : List WorkerSide → ℕ
open_passes [] = 0
open_passes (w ∷ ws) = one_if (nat_lt 0 w.books.calls.open_tills) + open_passes ws

-- As many passes as are open, each of a worker here. One till of its worker's books is open, so none is there twice.
pub record AreOwn (workers : List WorkerSide) (desks : List ClientSide) (passes : List PassState) : Type 0 where
  pub as_many : length passes ≡ open_passes workers
  pub each : AllByRecursion (IsOwn workers desks) passes

-- ---- the grants

-- What the desks' clients were granted in a phase is together all that was granted in it, in number and in cost: each grant is
-- of a client that has a desk, and no two desks are of one client.
abbrev pub AreGrantsOfDesks : {T : Type 0} → List (Event T) → List ClientSide → Type 0
AreGrantsOfDesks history desks = (phase : PhaseType) →
    (sum_by (λ d. count (grants_added d.client phase) history) desks ≡ count (phase_grants phase) history)
    × (sum_by (λ d. count (costs_added d.client phase) history) desks ≡ count (phase_costs phase) history)

-- a worker whose pass is gathered, and reaches no desk
abbrev pub closed_worker : WorkerSide → WorkerSide
closed_worker w = record w { reach = 0; books = map_counts after_closing w.books }

-- what was gathered is what the events add, and no till is open
pub record IsGathered {T : Type 0} (adds : Event T → ℕ) (history : List (Event T)) (book : Account) : Type 0 where
  pub gathered : book.gathered ≡ count adds history
  pub held : book.held ≡ 0
  pub open_tills : book.open_tills ≡ 0

-- the same of a book of a worker
abbrev pub HasGathered : {T : Type 0} → List (Event T) → CountedBook T → Type 0
HasGathered history c = IsGathered c.adds (drop c.from history) c.book

-- The numbers of a worker's pass are its counts over the history.
abbrev pub IsSettledWorker : {T : Type 0} → List (Event T) → WorkerSide → Type 0
IsSettledWorker history w = EachCount (HasGathered history) (counted_books w)

-- ---- the desks

-- grants of a phase: how many, and what they cost
abbrev pub no_amounts : Amounts
no_amounts = record { grants = 0; cost = 0 }

abbrev pub amounts_in : PhaseHoldings → Amounts
amounts_in tills = record { grants = tills.grants.amount; cost = tills.cost.amount }

-- what the books of a phase gathered
abbrev pub gathered_in : PhaseAccounts → Amounts
gathered_in books = record { grants = books.grants.gathered; cost = books.cost.gathered }

-- what is left of a phase in the passes at the place of a desk
abbrev pub left_in : PhaseType → ℕ → List PassState → Amounts
left_in phase k [] = no_amounts
left_in phase k (p ∷ ps) = record {
  grants = (tills_in phase (slice_index_or p.units k no_unit)).grants.amount + (left_in phase k ps).grants;
  cost = (tills_in phase (slice_index_or p.units k no_unit)).cost.amount + (left_in phase k ps).cost;
}

-- the book gathered this number of tills, which held this amount
pub record IsTakenIn (tills amount : ℕ) (old new : Account) : Type 0 where
  pub number : new.number ≡ old.number
  pub gathered : new.gathered ≡ old.gathered + amount
  pub total : total_of new ≡ total_of old
  pub open_tills : new.open_tills + tills ≡ old.open_tills

-- both books of a phase did
pub record IsPhaseTakenIn (tills : ℕ) (amounts : Amounts) (old new : PhaseAccounts) : Type 0 where
  pub grants : IsTakenIn tills amounts.grants old.grants new.grants
  pub cost : IsTakenIn tills amounts.cost old.cost new.cost

-- the desk gathered tills of each phase, and is else as it was
pub record IsDeskTakenIn (tills : ℕ) (reservation priority : Amounts) (old new : ClientSide) : Type 0 where
  pub its : new ≡ record old { books = new.books }
  pub reservations : IsPhaseTakenIn tills reservation old.books.reservation new.books.reservation
  pub priorities : IsPhaseTakenIn tills priority old.books.priority new.books.priority

-- each desk gathered its tills of these, if there are some
pub record AreUnitsTakenIn (units : List GrantHoldings) (old new : List ClientSide) : Type 0 where
  pub as_many : length new ≡ length old
  pub each : (k : ℕ) → k < length old
      → IsDeskTakenIn (one_if (nat_lt k (length units))) (amounts_in (slice_index_or units k no_unit).reservation) (amounts_in (slice_index_or units k no_unit).priority)
      (slice_index_or old k no_desk) (slice_index_or new k no_desk)

-- the grant book totals what it did; what the passes held is gathered, and the held till of its pair alone is open
pub record IsSettledBook {T : Type 0} (adds : Event T → ℕ) (history : List (Event T)) (held : ℕ) (old new : Account) : Type 0 where
  pub number : new.number ≡ old.number
  pub total : total_of new ≡ count adds history
  pub gathered : new.gathered ≡ held
  pub open_tills : new.open_tills ≡ 1

-- both grant books of a client's phase are
pub record IsSettledPhase {T : Type 0} (client : ℕ) (phase : PhaseType) (history : List (Event T)) (held : Amounts) (old new : PhaseAccounts) : Type 0 where
  pub grants : IsSettledBook (grants_added client phase) history held.grants old.grants new.grants
  pub cost : IsSettledBook (costs_added client phase) history held.cost old.cost new.cost

-- the desk at a place, which gathered its tills of these passes, and is else as it was
pub record IsSettledDesk {T : Type 0} (history : List (Event T)) (passes : List PassState) (k : ℕ) (old new : ClientSide) : Type 0 where
  pub its : new ≡ record old { books = new.books }
  pub stamps : new.held.stamps.amount ≡ count (stamps_added old.client) history
  pub delta : new.held.delta.amount ≡ count (delta_added old.client) history
  pub rho : new.held.rho.amount ≡ count (rho_added old.client) history
  pub reservations : IsSettledPhase old.client Reservation history (left_in Reservation k passes) old.books.reservation new.books.reservation
  pub priorities : IsSettledPhase old.client Priority history (left_in Priority k passes) old.books.priority new.books.priority

pub record AreSettledDesks {T : Type 0} (history : List (Event T)) (passes : List PassState) (old new : List ClientSide) : Type 0 where
  pub as_many : length new ≡ length old
  pub each : (k : ℕ) → k < length old → IsSettledDesk history passes k (slice_index_or old k no_desk) (slice_index_or new k no_desk)

-- ---- the book

-- nothing of the book is left that could be settled again, and nothing more can be recorded
abbrev pub after_settling : {T : Type 0} → BookState T → BookState T
after_settling b = record b { history = []; first = 0; most = 0; workers = []; desks = [] }

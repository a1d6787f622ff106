-- What an event moves in a book and in the pass of its worker.
use Rattle.std.specs.Prelude.{◌≡◌, ℕ, ◌<◌, ◌==◌, ◌&&◌, Bool, false, if◌then◌else◌, List, [], ◌∷◌, ◌++◌, map, length, Option, Some, None, slice_get, slice_index_or, slice_set}
use Rattle.std.specs.List.{position}
use Rattle.dmc_types.specs.declared.ids.ClientId.{ClientId}
use Rattle.dmc_types.specs.declared.config.PhaseType.{PhaseType}
use Rattle.dmc_types.specs.declared.config.PhaseType.TheVariants.{Reservation, Priority}
use Rattle.dmc_types.specs.declared.command.Command.{Command}
use Rattle.dmc_tag.specs.declared.event.Event.{Event}
use Rattle.dmc_tag.specs.declared.reply.Reply.{Reply}
use Rattle.dmc_ledger.specs.Accounts.{Account, Holding}
use Rattle.dmc_ledger.specs.Bundles.{ClientSide, PhaseAccounts, PhaseHoldings, GrantHoldings, UnitValue}
use Rattle.dmc_ledger.specs.Moves.{after_issue, with_more, tills_in, books_in, tills_after_response}
use Rattle.dmc_book.specs.BookState.{WorkerSide, BookState, PassState, no_worker, no_unit}
use Rattle.dmc_book.specs.Counts.{numbers_of, worker_adds, stamps_added, delta_added, rho_added, grants_added, costs_added, grant_in}
use Rattle.dmc_book.specs.declared.counts.Grant.{Grant}
use Rattle.dmc_book.specs.PerCount.{WorkerCounts, EachPair, zip_counts}

-- each book of a worker issues its number, into its till
abbrev pub books_after : WorkerCounts ℕ → WorkerCounts Account → WorkerCounts Account
books_after n books = zip_counts after_issue n books

abbrev pub tills_after : WorkerCounts ℕ → WorkerCounts Holding → WorkerCounts Holding
tills_after n tills = zip_counts with_more n tills

-- each worker's books and each desk count what the event adds to their counts
abbrev pub worker_after : {T : Type 0} → Event T → WorkerSide → WorkerSide
worker_after e w = record w { books = books_after (worker_adds w.worker e) w.books }

abbrev pub phase_after : {T : Type 0} → ℕ → PhaseType → Event T → PhaseAccounts → PhaseAccounts
phase_after client phase e books = record {
  grants = after_issue (grants_added client phase e) books.grants;
  cost = after_issue (costs_added client phase e) books.cost;
}

abbrev pub desk_after : {T : Type 0} → Event T → ClientSide → ClientSide
desk_after e d = record d {
  held = record {
    stamps = with_more (stamps_added d.client e) d.held.stamps;
    delta = with_more (delta_added d.client e) d.held.delta;
    rho = with_more (rho_added d.client e) d.held.rho;
  };
  books = record { reservation = phase_after d.client Reservation e d.books.reservation; priority = phase_after d.client Priority e d.books.priority };
}

-- the book, with the event recorded
abbrev pub book_after : {T : Type 0} → Event T → BookState T → BookState T
book_after e b = record b {
  history = b.history ++ e ∷ [];
  workers = map (worker_after e) b.workers;
  desks = map (desk_after e) b.desks;
}

-- where the desk of a client is
abbrev pub desk_place : ℕ → List ClientSide → Option ℕ
desk_place client desks = position (λ d. client == d.client) desks

-- where a client is among these names
abbrev pub place_of : ℕ → List ClientId → Option ℕ
place_of client names = position (λ id. client == id.0) names

-- a grant is one more, with its cost, in the tills of its phase at the client's place
abbrev pub unit_at : Grant → Option ℕ → List GrantHoldings → List GrantHoldings
unit_at grant None units = units
unit_at grant (Some i) units = slice_set units i (tills_after_response grant.phase grant.cost (slice_index_or units i no_unit))

abbrev pub units_after : List ClientId → Option Grant → List GrantHoldings → List GrantHoldings
units_after names None units = units
units_after names (Some grant) units = unit_at grant (place_of grant.client.0 names) units

-- the unit of a grant of a server; without one, that of the last grant stays
abbrev pub unit_of : ℕ → Grant → UnitValue
unit_of server grant = record { client = grant.client.0; server = server; phase = grant.phase; cost = grant.cost }

abbrev pub granted_after : ℕ → Option Grant → Option UnitValue → Option UnitValue
granted_after server None before = before
granted_after server (Some grant) before = Some (unit_of server grant)

-- the worker's pass after this reply of a server's queue to its command: of a grant it has the unit if it names the client
abbrev pub pass_after : {T : Type 0} → ℕ → Command → Reply T → PassState → PassState
pass_after server command reply p = record p {
  tills = tills_after (numbers_of command reply) p.tills;
  units = units_after p.clients (grant_in reply) p.units;
  granted = granted_after server (grant_in reply) p.granted;
}

-- ---- whose pass it is

-- the tills are of these books
abbrev pub AreOf : WorkerCounts Holding → WorkerCounts Account → Type 0
AreOf tills books = EachPair (λ (till : Holding) (book : Account). till.number ≡ book.number) tills books

-- a till of the worker's books is open: it was not dismissed
abbrev pub IsOpen : WorkerSide → Type 0
IsOpen w = 0 < w.books.calls.open_tills

-- the pass is of a worker that is enrolled, and its tills are of that worker's books
pub record IsEnrolled (workers : List WorkerSide) (p : PassState) : Type 0 where
  pub within : p.place < length workers
  pub its_worker : (slice_index_or workers p.place no_worker).worker ≡ p.worker
  pub its_tills : AreOf p.tills (slice_index_or workers p.place no_worker).books
  pub still : IsOpen (slice_index_or workers p.place no_worker)

-- the tills of the phase are of the desk's books
abbrev pub are_phase_of : PhaseHoldings → PhaseAccounts → Bool
are_phase_of tills books = (tills.grants.number == books.grants.number) && (tills.cost.number == books.cost.number)

abbrev pub is_unit_of : PhaseType → Option ClientSide → Option GrantHoldings → Bool
is_unit_of phase None units = false
is_unit_of phase (Some desk) None = false
is_unit_of phase (Some desk) (Some unit) = are_phase_of (tills_in phase unit) (books_in phase desk.books)

abbrev pub takes_at : PhaseType → List ClientSide → List GrantHoldings → Option ℕ → Bool
takes_at phase desks units None = false
takes_at phase desks units (Some i) = is_unit_of phase (slice_get desks i) (slice_get units i)

-- a place, if it is found and the other is the same one
abbrev pub same_place : Option ℕ → Option ℕ → Option ℕ
same_place None o = None
same_place (Some i) None = None
same_place (Some i) (Some j) = if i == j then Some i else None

-- a pass of these names and units can take a grant of the client in the phase: the client has a desk, the pass names it at
-- the desk's place, and the tills there are of the desk's books
abbrev pub takes : List ClientSide → List ClientId → List GrantHoldings → ClientId → PhaseType → Bool
takes desks names units client phase = takes_at phase desks units (same_place (desk_place client.0 desks) (place_of client.0 names))

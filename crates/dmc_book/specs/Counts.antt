-- Counts over a queue's history: what each event adds to a count, and the sums.
use Rattle.std.specs.Prelude.{ℕ, ◌+◌, ◌-◌, ◌^◌, ◌==◌, ◌&&◌, Bool, true, false, if◌then◌else◌, List, [], ◌∷◌, Option, Some, None, is_some}
use Rattle.dmc_types.specs.Values.{Params, Counts, no_counts, counts_of}
use Rattle.dmc_types.specs.declared.ids.ClientId.{ClientId}
use Rattle.dmc_types.specs.declared.config.PhaseType.{PhaseType}
use Rattle.dmc_types.specs.declared.config.PhaseType.TheVariants.{Reservation, Priority}
use Rattle.dmc_types.specs.declared.command.Command.{Command}
use Rattle.dmc_types.specs.declared.command.Command.TheVariants.{Register, Update, Add, Pull, Remove, Cancel, Clean}
use Rattle.dmc_tag.specs.declared.event.Event.{Event}
use Rattle.dmc_tag.specs.declared.reply.Reply.{Reply}
use Rattle.dmc_tag.specs.declared.reply.Reply.TheVariants.{Registered, Updated, Tagged, Granted, Later, Nothing, Removed, Cleaned, Refused}
use Rattle.dmc_ledger.specs.Accounts.{Account}
use Rattle.dmc_book.specs.declared.counts.Grant.{Grant}
use Rattle.dmc_book.specs.BookState.{WorkerSide}
use Rattle.dmc_book.specs.PerCount.{WorkerCounts, for_each}

-- the most that an event adds to a book
abbrev pub max_added : ℕ
max_added = 2 ^ 32 - 1

abbrev pub one_if : Bool → ℕ
one_if b = if b then 1 else 0

-- ---- replies

-- a miss: Later, Nothing or a refusal
abbrev pub is_miss : {T : Type 0} → Reply T → Bool
is_miss Registered = false
is_miss Updated = false
is_miss (Tagged tags) = false
is_miss (Granted client token phase beyond cost) = false
is_miss (Later m) = true
is_miss Nothing = true
is_miss (Removed count) = false
is_miss (Cleaned idled erased) = false
is_miss (Refused refusal) = true

abbrev pub is_tagged : {T : Type 0} → Reply T → Bool
is_tagged Registered = false
is_tagged Updated = false
is_tagged (Tagged tags) = true
is_tagged (Granted client token phase beyond cost) = false
is_tagged (Later m) = false
is_tagged Nothing = false
is_tagged (Removed count) = false
is_tagged (Cleaned idled erased) = false
is_tagged (Refused refusal) = false

-- who is granted, in which phase (a beyond grant is one of the weight phase), and what that costs
abbrev pub grant_in : {T : Type 0} → Reply T → Option Grant
grant_in Registered = None
grant_in Updated = None
grant_in (Tagged tags) = None
grant_in (Granted client token phase beyond cost) = Some (record { client = client; phase = phase; cost = cost })
grant_in (Later m) = None
grant_in Nothing = None
grant_in (Removed count) = None
grant_in (Cleaned idled erased) = None
grant_in (Refused refusal) = None

-- the token of a grant, else 0
abbrev pub token_granted : {T : Type 0} → Reply T → ℕ
token_granted Registered = 0
token_granted Updated = 0
token_granted (Tagged tags) = 0
token_granted (Granted client token phase beyond cost) = token.0
token_granted (Later m) = 0
token_granted Nothing = 0
token_granted (Removed count) = 0
token_granted (Cleaned idled erased) = 0
token_granted (Refused refusal) = 0

-- what a grant costs, else 0
abbrev pub cost_granted : {T : Type 0} → Reply T → ℕ
cost_granted Registered = 0
cost_granted Updated = 0
cost_granted (Tagged tags) = 0
cost_granted (Granted client token phase beyond cost) = cost
cost_granted (Later m) = 0
cost_granted Nothing = 0
cost_granted (Removed count) = 0
cost_granted (Cleaned idled erased) = 0
cost_granted (Refused refusal) = 0

-- ---- commands

-- the token of an add, else 0
abbrev pub token_of : Command → ℕ
token_of (Register client info at) = 0
token_of (Update client info at) = 0
token_of (Add client token params at) = token.0
token_of (Pull at) = 0
token_of (Remove client) = 0
token_of (Cancel client token counting) = 0
token_of (Clean at) = 0

-- whose request an add brings, and what its stamp carries
abbrev pub stamp_in : Command → Option (ClientId × Params)
stamp_in (Register client info at) = None
stamp_in (Update client info at) = None
stamp_in (Add client token params at) = Some (client, params)
stamp_in (Pull at) = None
stamp_in (Remove client) = None
stamp_in (Cancel client token counting) = None
stamp_in (Clean at) = None

-- ---- what an event adds to the counts of its worker: calls, misses, tokens of accepted adds, grants, tokens of grants, and what
-- these cost

abbrev pub numbers_of : {T : Type 0} → Command → Reply T → WorkerCounts ℕ
numbers_of command reply = record {
  calls = 1;
  misses = one_if (is_miss reply);
  tokens = if is_tagged reply then token_of command else 0;
  grants = one_if (is_some (grant_in reply));
  granted = token_granted reply;
  cost = cost_granted reply;
}

abbrev pub no_numbers : WorkerCounts ℕ
no_numbers = for_each 0

-- and to those of each worker
abbrev pub worker_adds : {T : Type 0} → ℕ → Event T → WorkerCounts ℕ
worker_adds worker e = if e.worker.0 == worker then numbers_of e.command e.reply else no_numbers

-- A book of a worker: what each event adds to it, from which event on, and the book.
pub record CountedBook (T : Type 0) : Type 0 where
  pub adds : Event T → ℕ
  pub from : ℕ
  pub book : Account

-- the books of a worker, of which those of its tokens count since they were last renewed
abbrev pub counted_books : {T : Type 0} → WorkerSide → WorkerCounts (CountedBook T)
counted_books w = record {
  calls = record { adds = λ e. (worker_adds w.worker e).calls; from = 0; book = w.books.calls };
  misses = record { adds = λ e. (worker_adds w.worker e).misses; from = 0; book = w.books.misses };
  tokens = record { adds = λ e. (worker_adds w.worker e).tokens; from = w.renewed; book = w.books.tokens };
  grants = record { adds = λ e. (worker_adds w.worker e).grants; from = 0; book = w.books.grants };
  granted = record { adds = λ e. (worker_adds w.worker e).granted; from = w.renewed; book = w.books.granted };
  cost = record { adds = λ e. (worker_adds w.worker e).cost; from = 0; book = w.books.cost };
}

-- ---- what an event adds to the counts of a client

-- the stamp of an accepted add
abbrev pub accepted : {T : Type 0} → Event T → Option (ClientId × Params)
accepted e = if is_tagged e.reply then stamp_in e.command else None

abbrev pub stamps_for : ℕ → Option (ClientId × Params) → ℕ
stamps_for client None = 0
stamps_for client (Some stamp) = one_if (stamp.0.0 == client)

abbrev pub counts_for : ℕ → Option (ClientId × Params) → Counts
counts_for client None = no_counts
counts_for client (Some stamp) = if stamp.0.0 == client then counts_of stamp.1 else no_counts

abbrev pub is_phase : PhaseType → PhaseType → Bool
is_phase Reservation Reservation = true
is_phase Reservation Priority = false
is_phase Priority Reservation = false
is_phase Priority Priority = true

-- whether a grant is of this client, and in this phase
abbrev pub is_grant_of : ℕ → PhaseType → Grant → Bool
is_grant_of client phase grant = (grant.client.0 == client) && is_phase phase grant.phase

abbrev pub units_for : ℕ → PhaseType → Option Grant → ℕ
units_for client phase None = 0
units_for client phase (Some grant) = one_if (is_grant_of client phase grant)

abbrev pub costs_for : ℕ → PhaseType → Option Grant → ℕ
costs_for client phase None = 0
costs_for client phase (Some grant) = if is_grant_of client phase grant then grant.cost else 0

-- accepted adds, their deltas and rhos, and grants in a phase with their costs
abbrev pub stamps_added : {T : Type 0} → ℕ → Event T → ℕ
stamps_added client e = stamps_for client (accepted e)

abbrev pub delta_added : {T : Type 0} → ℕ → Event T → ℕ
delta_added client e = (counts_for client (accepted e)).delta

abbrev pub rho_added : {T : Type 0} → ℕ → Event T → ℕ
rho_added client e = (counts_for client (accepted e)).rho

abbrev pub grants_added : {T : Type 0} → ℕ → PhaseType → Event T → ℕ
grants_added client phase e = units_for client phase (grant_in e.reply)

abbrev pub costs_added : {T : Type 0} → ℕ → PhaseType → Event T → ℕ
costs_added client phase e = costs_for client phase (grant_in e.reply)

-- grants in a phase, of any client, and their costs
abbrev pub units_in : PhaseType → Option Grant → ℕ
units_in phase None = 0
units_in phase (Some grant) = one_if (is_phase phase grant.phase)

abbrev pub costs_in : PhaseType → Option Grant → ℕ
costs_in phase None = 0
costs_in phase (Some grant) = if is_phase phase grant.phase then grant.cost else 0

abbrev pub phase_grants : {T : Type 0} → PhaseType → Event T → ℕ
phase_grants phase e = units_in phase (grant_in e.reply)

abbrev pub phase_costs : {T : Type 0} → PhaseType → Event T → ℕ
phase_costs phase e = costs_in phase (grant_in e.reply)

-- what a grant costs, of any client and in any phase
abbrev pub grant_cost : {T : Type 0} → Event T → ℕ
grant_cost e = cost_granted e.reply

-- ---- the sums

-- what the events of a history add together
abbrev pub count : {T : Type 0} → (Event T → ℕ) → List (Event T) → ℕ
count adds [] = 0
count adds (e ∷ es) = adds e + count adds es

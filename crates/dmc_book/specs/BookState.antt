-- What contracts see of a queue's book and of a worker's pass.
use Rattle.std.specs.Prelude.{ℕ, Bool, List, Option, map}
use Rattle.std.specs.Arc.{arc_value}
use Rattle.dmc_types.specs.Values.{Setting}
use Rattle.dmc_types.specs.declared.ids.ClientId.{ClientId}
use Rattle.dmc_tag.specs.declared.event.Event.{Event}
use Rattle.dmc_shared.specs.Segmented.{Segmented}
use Rattle.dmc_ledger.specs.Accounts.{Account, Holding, no_account, no_holding}
use Rattle.dmc_ledger.specs.Bundles.{ClientSide, PhaseAccounts, PhaseHoldings, GrantHoldings, UnitValue, grant_holdings}
use Rattle.dmc_book.specs.declared.seat.Seat.{Seat}
use Rattle.dmc_book.specs.declared.pass.WorkerPass.{WorkerPass}
use Rattle.dmc_book.specs.PerCount.{WorkerCounts, for_each}

-- An enrolled worker; how many events were recorded when its sums of tokens were last renewed; of how many desks its pass has
-- tills, which are the first ones; and its books.
pub record WorkerSide : Type 0 where
  pub worker : ℕ
  pub renewed : ℕ
  pub reach : ℕ
  pub books : WorkerCounts Account

-- The number of the server; the number of the history in the set-up, the history, how many of its events were released, how many there may be until more
-- are released, and for how many more a place is reserved; the workers; and the desk of each client.
pub record AccountsState (T : Type 0) : Type 0 where
  pub server : ℕ
  pub number : ℕ
  pub history : List (Event T)
  pub first : ℕ
  pub most : ℕ
  pub room : ℕ
  pub workers : List WorkerSide
  pub desks : List ClientSide

-- The configuration; the accounts, but for the places that are reserved; and whether no more requests are taken.
pub record BookState (T : Type 0) : Type 0 where
  pub config : Setting
  pub server : ℕ
  pub number : ℕ
  pub history : List (Event T)
  pub first : ℕ
  pub most : ℕ
  pub workers : List WorkerSide
  pub desks : List ClientSide
  pub closed : Bool

-- a worker's pass: the worker and its place in the book, its tills, for each desk that it reaches tills of each phase, and the unit
-- of its last grant until that is taken
pub record PassState : Type 0 where
  pub worker : ℕ
  pub place : ℕ
  pub tills : WorkerCounts Holding
  pub clients : List ClientId
  pub units : List GrantHoldings
  pub granted : Option UnitValue

module _ {S : Type 0} where
  abbrev pub worker_side : Seat S → WorkerSide
  worker_side s = record { worker = s.worker.0; renewed = s.renewed; reach = s.reach; books = s.books }

  abbrev pub pass_state : WorkerPass S → PassState
  pass_state p = record {
    worker = p.worker.0;
    place = p.place;
    tills = p.tills;
    clients = (arc_value p.clients).keys;
    units = map grant_holdings p.units.items;
    granted = p.granted;
  }

-- the state of accounts of these parts
abbrev pub accounts_of : {T : Type 0} → ℕ → Segmented (Event T) → List WorkerSide → List ClientSide → AccountsState T
accounts_of server history workers desks = record {
  server = server;
  number = history.number;
  history = history.events;
  first = history.first;
  most = history.most;
  room = history.room;
  workers = workers;
  desks = desks;
}

-- the state of a book of these accounts
abbrev pub state_of : {T : Type 0} → Setting → AccountsState T → Bool → BookState T
state_of config accounts closed = record {
  config = config;
  server = accounts.server;
  number = accounts.number;
  history = accounts.history;
  first = accounts.first;
  most = accounts.most;
  workers = accounts.workers;
  desks = accounts.desks;
  closed = closed;
}

-- the default of a place without a worker, a desk, a unit
abbrev pub no_worker : WorkerSide
no_worker = record { worker = 0; renewed = 0; reach = 0; books = for_each no_account }

abbrev pub no_phase_books : PhaseAccounts
no_phase_books = record { grants = no_account; cost = no_account }

abbrev pub no_phase_tills : PhaseHoldings
no_phase_tills = record { grants = no_holding; cost = no_holding }

abbrev pub no_desk : ClientSide
no_desk = record {
  client = 0;
  server = 0;
  held = record { stamps = no_holding; delta = no_holding; rho = no_holding };
  books = record { reservation = no_phase_books; priority = no_phase_books };
}

abbrev pub no_unit : GrantHoldings
no_unit = record { reservation = no_phase_tills; priority = no_phase_tills }

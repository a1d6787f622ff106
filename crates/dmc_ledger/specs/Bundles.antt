-- What contracts see of tills, books and desks that belong together.
use Rattle.std.specs.Prelude.{◌≡◌, ℕ, ◌+◌, ◌<◌, ◌≤◌, Option, Some}
use Rattle.std.specs.Option.{option_map}
use Rattle.dmc_types.specs.Values.{Params}
use Rattle.dmc_types.specs.declared.config.PhaseType.{PhaseType}
use Rattle.dmc_ledger.specs.Accounts.{Account, Holding, after_closing, new_book, new_till}
use Rattle.dmc_ledger.specs.declared.bundle.StampTills.{StampTills}
use Rattle.dmc_ledger.specs.declared.bundle.PhaseTills.{PhaseTills}
use Rattle.dmc_ledger.specs.declared.bundle.GrantTills.{GrantTills}
use Rattle.dmc_ledger.specs.declared.bundle.StampBooks.{StampBooks}
use Rattle.dmc_ledger.specs.declared.bundle.PhaseBooks.{PhaseBooks}
use Rattle.dmc_ledger.specs.declared.bundle.GrantBooks.{GrantBooks}
use Rattle.dmc_ledger.specs.declared.desk.ClientDesk.{ClientDesk}
use Rattle.dmc_ledger.specs.declared.desk.ServerDesk.{ServerDesk}

-- the tills of stamps, deltas and rhos
pub record StampHoldings : Type 0 where
  pub stamps : Holding
  pub delta : Holding
  pub rho : Holding

-- the tills of grants in one phase, and of their costs
pub record PhaseHoldings : Type 0 where
  pub grants : Holding
  pub cost : Holding

-- the tills of grants in the constraint phase and in the weight phase
pub record GrantHoldings : Type 0 where
  pub reservation : PhaseHoldings
  pub priority : PhaseHoldings

pub record StampAccounts : Type 0 where
  pub stamps : Account
  pub delta : Account
  pub rho : Account

pub record PhaseAccounts : Type 0 where
  pub grants : Account
  pub cost : Account

pub record GrantAccounts : Type 0 where
  pub reservation : PhaseAccounts
  pub priority : PhaseAccounts

-- The queue's side of a pair, and the tracker's, which has the number of its list as long as it has one.
pub record ClientSide : Type 0 where
  pub client : ℕ
  pub server : ℕ
  pub held : StampHoldings
  pub books : GrantAccounts

pub record ServerSide : Type 0 where
  pub client : ℕ
  pub server : ℕ
  pub books : StampAccounts
  pub held : GrantHoldings
  pub list : Option ℕ

-- each as plain data, whatever its set-up
module _ {S : Type 0} where
  abbrev pub stamp_holdings : StampTills S → StampHoldings
  stamp_holdings t = record { stamps = t.stamps; delta = t.delta; rho = t.rho }

  abbrev pub phase_holdings : PhaseTills S → PhaseHoldings
  phase_holdings t = record { grants = t.grants; cost = t.cost }

  abbrev pub grant_holdings : GrantTills S → GrantHoldings
  grant_holdings t = record { reservation = phase_holdings t.reservation; priority = phase_holdings t.priority }

  abbrev pub stamp_accounts : StampBooks S → StampAccounts
  stamp_accounts b = record { stamps = b.stamps; delta = b.delta; rho = b.rho }

  abbrev pub phase_accounts : PhaseBooks S → PhaseAccounts
  phase_accounts b = record { grants = b.grants; cost = b.cost }

  abbrev pub grant_accounts : GrantBooks S → GrantAccounts
  grant_accounts b = record { reservation = phase_accounts b.reservation; priority = phase_accounts b.priority }

  abbrev pub client_side : ClientDesk S → ClientSide
  client_side d = record { client = d.client.0; server = d.server.0; held = stamp_holdings d.held; books = grant_accounts d.books }

  abbrev pub server_side : ServerDesk S → ServerSide
  server_side d = record {
    client = d.client.0;
    server = d.server.0;
    books = stamp_accounts d.books;
    held = grant_holdings d.held;
    list = option_map (λ l. l.number) d.list;
  }

-- a stamp: whose it is, for which server, and what it carries
pub record StampValue : Type 0 where
  pub client : ℕ
  pub server : ℕ
  pub params : Params

-- the tills hold at least one stamp, and at least these params
pub record Covers (tills : StampHoldings) (params : Params) : Type 0 where
  pub some_stamp : 0 < tills.stamps.amount
  pub its_delta : params.delta ≤ tills.delta.amount
  pub its_rho : params.rho ≤ tills.rho.amount

-- a unit: whose grant it is, of which server, in which phase, and what the request costs
pub record UnitValue : Type 0 where
  pub client : ℕ
  pub server : ℕ
  pub phase : PhaseType
  pub cost : ℕ

-- the tills hold at least one grant, and at least this cost
pub record HoldsGrant (tills : PhaseHoldings) (cost : ℕ) : Type 0 where
  pub some_grant : 0 < tills.grants.amount
  pub its_cost : cost ≤ tills.cost.amount

-- how many books the desks of a client and a server have
abbrev pub books_per_pair : ℕ
books_per_pair = 7

-- the tills and the books of a phase with the books from the n-th on
abbrev pub new_phase_tills : ℕ → PhaseHoldings
new_phase_tills n = record { grants = new_till n; cost = new_till (n + 1) }

abbrev pub new_phase_books : ℕ → PhaseAccounts
new_phase_books n = record { grants = new_book n; cost = new_book (n + 1) }

-- The pair of a client and a server, as it is opened with the books from the n-th on. The list has the number of the
-- book of stamps.
abbrev pub new_client_side : ℕ → ℕ → ℕ → ClientSide
new_client_side client server n = record {
  client = client;
  server = server;
  held = record { stamps = new_till n; delta = new_till (n + 1); rho = new_till (n + 2) };
  books = record { reservation = new_phase_books (n + 3); priority = new_phase_books (n + 5) };
}

abbrev pub new_server_side : ℕ → ℕ → ℕ → ServerSide
new_server_side client server n = record {
  client = client;
  server = server;
  books = record { stamps = new_book n; delta = new_book (n + 1); rho = new_book (n + 2) };
  held = record { reservation = new_phase_tills (n + 3); priority = new_phase_tills (n + 5) };
  list = Some n;
}

-- the till is the only open one of the book
pub record IsOnlyTill (book : Account) (till : Holding) : Type 0 where
  pub same_number : till.number ≡ book.number
  pub alone : book.open_tills ≡ 1

-- the same of both tills of a phase
pub record AreOnlyTills (books : PhaseAccounts) (tills : PhaseHoldings) : Type 0 where
  pub grants : IsOnlyTill books.grants tills.grants
  pub cost : IsOnlyTill books.cost tills.cost

-- two desks are those of one pair, and no other till of it is open
pub record IsPair (c : ClientSide) (s : ServerSide) : Type 0 where
  pub stamps : IsOnlyTill s.books.stamps c.held.stamps
  pub delta : IsOnlyTill s.books.delta c.held.delta
  pub rho : IsOnlyTill s.books.rho c.held.rho
  pub reservation : AreOnlyTills c.books.reservation s.held.reservation
  pub priority : AreOnlyTills c.books.priority s.held.priority

abbrev pub closed_stamps : StampAccounts → StampAccounts
closed_stamps b = record { stamps = after_closing b.stamps; delta = after_closing b.delta; rho = after_closing b.rho }

abbrev pub closed_phase : PhaseAccounts → PhaseAccounts
closed_phase b = record { grants = after_closing b.grants; cost = after_closing b.cost }

abbrev pub closed_grants : GrantAccounts → GrantAccounts
closed_grants b = record { reservation = closed_phase b.reservation; priority = closed_phase b.priority }

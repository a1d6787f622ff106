-- The numbers of desks, by which a later state of a book is known.
use Rattle.std.specs.Prelude.{ℕ}
use Rattle.dmc_ledger.specs.Bundles.{PhaseHoldings, PhaseAccounts, ClientSide, ServerSide}

-- the numbers of a phase's books
pub record PhaseNumbers : Type 0 where
  pub grants : ℕ
  pub cost : ℕ

-- whose desk it is, at which server, and the numbers of the books of the pair
pub record DeskNumbers : Type 0 where
  pub client : ℕ
  pub server : ℕ
  pub stamps : ℕ
  pub delta : ℕ
  pub rho : ℕ
  pub reservation : PhaseNumbers
  pub priority : PhaseNumbers

abbrev pub till_numbers : PhaseHoldings → PhaseNumbers
till_numbers tills = record { grants = tills.grants.number; cost = tills.cost.number }

abbrev pub book_numbers : PhaseAccounts → PhaseNumbers
book_numbers books = record { grants = books.grants.number; cost = books.cost.number }

-- those of the tracker's desk, and of the queue's
abbrev pub side_numbers : ServerSide → DeskNumbers
side_numbers desk = record {
  client = desk.client;
  server = desk.server;
  stamps = desk.books.stamps.number;
  delta = desk.books.delta.number;
  rho = desk.books.rho.number;
  reservation = till_numbers desk.held.reservation;
  priority = till_numbers desk.held.priority;
}

abbrev pub desk_numbers : ClientSide → DeskNumbers
desk_numbers desk = record {
  client = desk.client;
  server = desk.server;
  stamps = desk.held.stamps.number;
  delta = desk.held.delta.number;
  rho = desk.held.rho.number;
  reservation = book_numbers desk.books.reservation;
  priority = book_numbers desk.books.priority;
}

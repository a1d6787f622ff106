-- The plain steps of books and tills: an amount is issued, a till is opened, a till is gathered.
use Rattle.std.specs.Prelude.{◌≡◌, ℕ, ◌+◌, ◌-◌, ◌≤◌}
use Rattle.dmc_types.specs.Values.{Params}
use Rattle.dmc_types.specs.declared.config.PhaseType.{PhaseType}
use Rattle.dmc_types.specs.declared.config.PhaseType.TheVariants.{Reservation, Priority}
use Rattle.dmc_ledger.specs.Accounts.{Account, Holding, new_till}
use Rattle.dmc_ledger.specs.Bundles.{StampHoldings, PhaseHoldings, GrantHoldings, StampAccounts, PhaseAccounts, GrantAccounts}

-- a till with an amount more, and with an amount less
abbrev pub with_more : ℕ → Holding → Holding
with_more n till = record till { amount = till.amount + n }

abbrev pub with_less : ℕ → Holding → Holding
with_less n till = record till { amount = till.amount - n }

-- a book that issued an amount, that opened a till, and that gathered one
abbrev pub after_issue : ℕ → Account → Account
after_issue n book = record book { held = book.held + n }

abbrev pub after_opening : Account → Account
after_opening book = record book { open_tills = book.open_tills + 1 }

abbrev pub after_gather : Holding → Account → Account
after_gather till book = record {
  number = book.number;
  gathered = book.gathered + till.amount;
  held = book.held - till.amount;
  open_tills = book.open_tills - 1;
}

-- the tills are of these books
pub record AreOf (tills : StampHoldings) (books : StampAccounts) : Type 0 where
  pub stamps : tills.stamps.number ≡ books.stamps.number
  pub delta : tills.delta.number ≡ books.delta.number
  pub rho : tills.rho.number ≡ books.rho.number

-- the tills hold no more than all open tills of these books
pub record AreWithin (tills : StampHoldings) (books : StampAccounts) : Type 0 where
  pub stamps : tills.stamps.amount ≤ books.stamps.held
  pub delta : tills.delta.amount ≤ books.delta.held
  pub rho : tills.rho.amount ≤ books.rho.held

-- a stamp: one unit, its delta and its rho; issued from the books, added to tills, and taken out of tills
abbrev pub books_after_stamp : Params → StampAccounts → StampAccounts
books_after_stamp params books = record {
  stamps = after_issue 1 books.stamps;
  delta = after_issue params.delta books.delta;
  rho = after_issue params.rho books.rho;
}

abbrev pub tills_after_stamp : Params → StampHoldings → StampHoldings
tills_after_stamp params tills = record {
  stamps = with_more 1 tills.stamps;
  delta = with_more params.delta tills.delta;
  rho = with_more params.rho tills.rho;
}

abbrev pub tills_after_submit : Params → StampHoldings → StampHoldings
tills_after_submit params tills = record {
  stamps = with_less 1 tills.stamps;
  delta = with_less params.delta tills.delta;
  rho = with_less params.rho tills.rho;
}

-- a till of each stamp book is opened, and is gathered
abbrev pub books_after_opening : StampAccounts → StampAccounts
books_after_opening books = record {
  stamps = after_opening books.stamps;
  delta = after_opening books.delta;
  rho = after_opening books.rho;
}

abbrev pub new_tills : StampAccounts → StampHoldings
new_tills books = record {
  stamps = new_till books.stamps.number;
  delta = new_till books.delta.number;
  rho = new_till books.rho.number;
}

abbrev pub books_after_gather : StampHoldings → StampAccounts → StampAccounts
books_after_gather tills books = record {
  stamps = after_gather tills.stamps books.stamps;
  delta = after_gather tills.delta books.delta;
  rho = after_gather tills.rho books.rho;
}

-- the grants of a phase: their tills and their books
abbrev pub tills_in : PhaseType → GrantHoldings → PhaseHoldings
tills_in Reservation tills = tills.reservation
tills_in Priority tills = tills.priority

abbrev pub books_in : PhaseType → GrantAccounts → PhaseAccounts
books_in Reservation books = books.reservation
books_in Priority books = books.priority

-- one grant of a cost more, in the tills of a phase, and one less
abbrev pub with_grant : ℕ → PhaseHoldings → PhaseHoldings
with_grant cost tills = record { grants = with_more 1 tills.grants; cost = with_more cost tills.cost }

abbrev pub without_grant : ℕ → PhaseHoldings → PhaseHoldings
without_grant cost tills = record { grants = with_less 1 tills.grants; cost = with_less cost tills.cost }

abbrev pub tills_after_response : PhaseType → ℕ → GrantHoldings → GrantHoldings
tills_after_response Reservation cost tills = record tills { reservation = with_grant cost tills.reservation }
tills_after_response Priority cost tills = record tills { priority = with_grant cost tills.priority }

-- the tills are of these books
pub record ArePhaseOf (tills : PhaseHoldings) (books : PhaseAccounts) : Type 0 where
  pub grants : tills.grants.number ≡ books.grants.number
  pub cost : tills.cost.number ≡ books.cost.number

-- tills of the same books
pub record AreSamePhase (tills other : PhaseHoldings) : Type 0 where
  pub grants : tills.grants.number ≡ other.grants.number
  pub cost : tills.cost.number ≡ other.cost.number

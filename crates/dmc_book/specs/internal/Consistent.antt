-- What follows from the invariant of a queue's book.
use Rattle.std.specs.Prelude.{ℕ, ◌-◌, ◌^◌, ◌≤◌}
use Rattle.dmc_ledger.specs.Accounts.{total_of}
use Rattle.dmc_ledger.specs.Bundles.{PhaseAccounts, GrantAccounts}

-- a total of at most so much is sure to take what one more event adds
abbrev pub max_before : ℕ
max_before = 2 ^ 63 - 2 ^ 32

pub record IsPhaseWithin (n : ℕ) (books : PhaseAccounts) : Type 0 where
  pub grants : total_of books.grants ≤ n
  pub cost : total_of books.cost ≤ n

pub record AreGrantsWithin (n : ℕ) (books : GrantAccounts) : Type 0 where
  pub reservation : IsPhaseWithin n books.reservation
  pub priority : IsPhaseWithin n books.priority

-- A desk's books after a grant.
use Rattle.dmc_types.specs.declared.config.PhaseType.{PhaseType}
use Rattle.dmc_types.specs.declared.config.PhaseType.TheVariants.{Reservation, Priority}
use Rattle.std.specs.Prelude.{ℕ}
use Rattle.dmc_ledger.specs.Bundles.{PhaseAccounts, GrantAccounts}
use Rattle.dmc_ledger.specs.Moves.{after_issue}

abbrev pub phase_after_grant : ℕ → PhaseAccounts → PhaseAccounts
phase_after_grant cost books = record { grants = after_issue 1 books.grants; cost = after_issue cost books.cost }

abbrev pub books_after_grant : PhaseType → ℕ → GrantAccounts → GrantAccounts
books_after_grant Reservation cost books = record books { reservation = phase_after_grant cost books.reservation }
books_after_grant Priority cost books = record books { priority = phase_after_grant cost books.priority }

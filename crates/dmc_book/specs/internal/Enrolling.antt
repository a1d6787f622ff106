-- The accounts after a worker was enrolled.
use Rattle.std.specs.Prelude.{ℕ, ◌++◌, List, [], ◌∷◌, map, length}
use Rattle.dmc_types.specs.declared.ids.WorkerId.{WorkerId}
use Rattle.dmc_book.specs.declared.fault.EnrolFault.{EnrolFault}
use Rattle.dmc_book.specs.declared.fault.EnrolFault.TheVariants as enrol
use Rattle.dmc_book.specs.BookState.{AccountsState, WorkerSide}
use Rattle.dmc_book.specs.Consistent.{IsSeated}
use Rattle.dmc_book.specs.Opening.{desk_with_tills, new_worker}
use Rattle.dmc_book.specs.Enrolling.{AreSeatLimits}

-- what holds if a worker is not enrolled for a cause
abbrev pub IsAgainstWorker : List WorkerSide → ℕ → WorkerId → EnrolFault → Type 0
IsAgainstWorker workers left w enrol.Known = IsSeated workers w.0
IsAgainstWorker workers left w enrol.Limit = (IsSeated workers w.0 → ⊥) × (AreSeatLimits (length workers) left → ⊥)
IsAgainstWorker workers left w enrol.Memory = (IsSeated workers w.0 → ⊥) × AreSeatLimits (length workers) left

-- the accounts, and the book, with the worker behind the others, whose books are the next of the mint: its pass has a till of
-- each desk
abbrev pub accounts_enrolled : {T : Type 0} → ℕ → WorkerId → AccountsState T → AccountsState T
accounts_enrolled n w a = record a {
  workers = a.workers ++ new_worker (length a.desks) n w ∷ [];
  desks = map (desk_with_tills 1) a.desks;
}

-- The accounts after a worker's tills were renewed.
use Rattle.std.specs.Prelude.{ℕ, length, slice_index_or, slice_set}
use Rattle.dmc_book.specs.BookState.{AccountsState, no_worker}
use Rattle.dmc_book.specs.Renewing.{renewed_worker}

-- the sums of the worker at a place begin anew
abbrev pub accounts_renewed : {T : Type 0} → ℕ → AccountsState T → AccountsState T
accounts_renewed place a = record a {
  workers = slice_set a.workers place (renewed_worker (length a.history) (slice_index_or a.workers place no_worker));
}

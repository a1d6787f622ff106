-- The accounts after a client or a till was added.
use Rattle.std.specs.Prelude.{◌≡◌, ℕ, ◌<◌, ◌≤◌, ◌++◌, List, [], ◌∷◌, length, None, is_some, true}
use Rattle.dmc_types.specs.Limits.{max_clients}
use Rattle.dmc_ledger.specs.Bundles.{ClientSide}
use Rattle.dmc_book.specs.declared.fault.AdmitCause.{AdmitCause}
use Rattle.dmc_book.specs.declared.fault.AdmitCause.TheVariants as admit
use Rattle.dmc_book.specs.BookState.{AccountsState}
use Rattle.dmc_book.specs.Moves.{desk_place}
use Rattle.dmc_book.specs.Joining.{IsUnused, desks_from, reach_at, with_reach}

-- what holds if a client is not admitted for a cause
abbrev pub IsAgainst : ℕ → List ClientSide → ClientSide → AdmitCause → Type 0
IsAgainst server desks d admit.Stranger = IsUnused server d → ⊥
IsAgainst server desks d admit.Known = IsUnused server d × (is_some (desk_place d.client desks) ≡ true)
IsAgainst server desks d admit.Clients = IsUnused server d × (desk_place d.client desks ≡ None) × (max_clients ≤ length desks)
IsAgainst server desks d admit.Memory = IsUnused server d × (desk_place d.client desks ≡ None) × (length desks < max_clients)

-- the accounts, and the book, with the desk behind the others: no pass has tills of it yet
abbrev pub accounts_admitted : {T : Type 0} → ClientSide → AccountsState T → AccountsState T
accounts_admitted d a = record a { desks = a.desks ++ d ∷ [] }

-- the worker at a place reaches each desk, and its pass has tills of each
abbrev pub accounts_extended : {T : Type 0} → ℕ → AccountsState T → AccountsState T
accounts_extended place a = record a {
  workers = with_reach place (length a.desks) a.workers;
  desks = desks_from (reach_at place a.workers) a.desks;
}

-- Clients that come later, and passes that are extended to their desks.
use Rattle.std.specs.Prelude.{◌≡◌, ℕ, ◌++◌, List, [], ◌∷◌, map, take, drop, length, slice_index_or, slice_set}
use Rattle.dmc_types.specs.declared.ids.ClientId.{ClientId}
use Rattle.dmc_ledger.specs.Accounts.{Account, total_of}
use Rattle.dmc_ledger.specs.Bundles.{ClientSide, PhaseAccounts, GrantHoldings}
use Rattle.dmc_book.specs.BookState.{BookState, PassState, WorkerSide, no_worker}
use Rattle.dmc_book.specs.Opening.{desk_with_tills, new_unit}

-- ---- a client more

-- nothing was issued, and one till is open
pub record IsUnissued (book : Account) : Type 0 where
  pub nothing : total_of book ≡ 0
  pub one_till : book.open_tills ≡ 1

pub record IsPhaseUnissued (books : PhaseAccounts) : Type 0 where
  pub grants : IsUnissued books.grants
  pub cost : IsUnissued books.cost

-- A desk of this server that was not used: it took nothing in and gave nothing out. `open_pair` gives such ones.
pub record IsUnused (server : ℕ) (d : ClientSide) : Type 0 where
  pub its_server : d.server ≡ server
  pub stamps : d.held.stamps.amount ≡ 0
  pub delta : d.held.delta.amount ≡ 0
  pub rho : d.held.rho.amount ≡ 0
  pub reservation : IsPhaseUnissued d.books.reservation
  pub priority : IsPhaseUnissued d.books.priority

abbrev pub book_admitted : {T : Type 0} → ClientSide → BookState T → BookState T
book_admitted d b = record b { desks = b.desks ++ d ∷ [] }

-- ---- a pass that reaches each desk

-- how many desks the worker at a place reaches, and the workers where it reaches this many
abbrev pub reach_at : ℕ → List WorkerSide → ℕ
reach_at place ws = (slice_index_or ws place no_worker).reach

abbrev pub with_reach : ℕ → ℕ → List WorkerSide → List WorkerSide
with_reach place n ws = slice_set ws place (record (slice_index_or ws place no_worker) { reach = n })

-- the desks, if those from a place on have a till more
abbrev pub desks_from : ℕ → List ClientSide → List ClientSide
desks_from n ds = take n ds ++ map (desk_with_tills 1) (drop n ds)

-- tills of the first desks, and new ones of those behind them
abbrev pub units_from : List GrantHoldings → List ClientSide → List GrantHoldings
units_from us ds = us ++ map new_unit (drop (length us) ds)

abbrev pub id_of : ClientSide → ClientId
id_of d = record { 0 = d.client }

abbrev pub book_extended : {T : Type 0} → ℕ → BookState T → BookState T
book_extended place b = record b {
  workers = with_reach place (length b.desks) b.workers;
  desks = desks_from (reach_at place b.workers) b.desks;
}

abbrev pub pass_extended : List ClientSide → PassState → PassState
pass_extended ds p = record p { clients = map id_of ds; units = units_from p.units ds }

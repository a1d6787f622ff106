-- The accounts while a book is settled.
use Rattle.std.specs.Prelude.{◌≡◌, ℕ, ◌+◌, ◌<◌, ◌⊎◌, nat_lt, List, [], ◌∷◌, length, slice_index_or}
use Rattle.dmc_types.specs.declared.config.PhaseType.TheVariants.{Reservation, Priority}
use Rattle.dmc_ledger.specs.Accounts.{Account}
use Rattle.dmc_ledger.specs.Bundles.{ClientSide}
use Rattle.dmc_book.specs.BookState.{AccountsState, PassState, WorkerSide, no_desk}
use Rattle.dmc_book.specs.Counts.{one_if}
use Rattle.dmc_book.specs.PerCount.{WorkerCounts, EachCount}
use Rattle.dmc_book.specs.Settling.{IsDeskTakenIn, closed_worker, left_in}

-- ---- the workers

-- each of the books has one till open
abbrev pub AreOneOpen : WorkerCounts Account → Type 0
AreOneOpen books = EachCount (λ (book : Account). book.open_tills ≡ 1) books

-- the worker's pass was gathered before: that changes nothing more of it
pub record IsShut (w : WorkerSide) : Type 0 where
  pub closed : closed_worker w ≡ w
  pub none_open : w.books.calls.open_tills ≡ 0
  pub reach : w.reach ≡ 0

-- the worker's pass is open, or was gathered
abbrev pub IsOpenOrShut : WorkerSide → Type 0
IsOpenOrShut w = AreOneOpen w.books ⊎ IsShut w

-- how many of the passes have tills of the desk at a place
abbrev pub having : ℕ → List PassState → ℕ
having k [] = 0
having k (p ∷ ps) = one_if (nat_lt k (length p.units)) + having k ps

-- each desk gathered its tills of these passes
pub record ArePassesTakenIn (passes : List PassState) (old new : List ClientSide) : Type 0 where
  pub as_many : length new ≡ length old
  pub each : (k : ℕ) → k < length old
      → IsDeskTakenIn (having k passes) (left_in Reservation k passes) (left_in Priority k passes)
      (slice_index_or old k no_desk) (slice_index_or new k no_desk)

-- the accounts once the book is settled
abbrev pub accounts_settled : {T : Type 0} → AccountsState T → AccountsState T
accounts_settled a = record a { history = []; first = 0; most = 0; room = 0; workers = []; desks = [] }

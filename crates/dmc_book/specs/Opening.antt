-- A queue's book that is made.
use Rattle.std.specs.Prelude.{◌≡◌, ℕ, ◌+◌, ◌*◌, ◌<◌, ◌≤◌, ◌==◌, false, List, [], ◌∷◌, map, length, None, ⊤}
use Rattle.std.specs.List.{AllByRecursion}
use Rattle.dmc_types.specs.Limits.{max_clients, max_events}
use Rattle.dmc_types.specs.Values.{Setting}
use Rattle.dmc_types.specs.declared.ids.ClientId.{ClientId}
use Rattle.dmc_types.specs.declared.ids.WorkerId.{WorkerId}
use Rattle.dmc_ledger.specs.Accounts.{Account, new_book, new_till}
use Rattle.dmc_ledger.specs.Bundles.{ClientSide, PhaseAccounts, PhaseHoldings, GrantHoldings, new_client_side}
use Rattle.dmc_book.specs.BookState.{AccountsState, BookState, PassState, WorkerSide, state_of}
use Rattle.dmc_book.specs.PerCount.{books_per_worker, map_counts, numbers_from}

-- the desk is this server's, as `open_pair` gave it
abbrev pub IsNewDesk : ℕ → ClientSide → Type 0
IsNewDesk server d = (n : ℕ) × (d ≡ new_client_side d.client server n)

-- the limits of a history, of the desks, and of the numbers that the mint has left: those of the workers' books, and the history's
pub record AreBookLimits (workers desks left most : ℕ) : Type 0 where
  pub some_events : 0 < most
  pub events_limit : most ≤ max_events
  pub desks_limit : desks ≤ max_clients
  pub books : books_per_worker * workers + 1 ≤ left

-- no number is named twice
abbrev pub AreApart : {X : Type 0} → (X → ℕ) → List X → Type 0
AreApart number [] = ⊤
AreApart number (x ∷ xs) = AllByRecursion (λ other. (number other == number x) ≡ false) xs × AreApart number xs

-- neither a worker nor a client is named twice
pub record AreNamedOnce (workers : List WorkerId) (desks : List ClientSide) : Type 0 where
  pub workers_once : AreApart (λ (w : WorkerId). w.0) workers
  pub clients_once : AreApart (λ (d : ClientSide). d.client) desks

-- a worker whose books are those from the n-th on, each with one till open, and whose pass reaches this many desks
abbrev pub new_worker : ℕ → ℕ → WorkerId → WorkerSide
new_worker reach n w = record { worker = w.0; renewed = 0; reach = reach; books = map_counts new_book (numbers_from n) }

-- the workers, whose books are the next of the mint
abbrev pub new_workers : ℕ → ℕ → List WorkerId → List WorkerSide
new_workers reach n [] = []
new_workers reach n (w ∷ ws) = new_worker reach n w ∷ new_workers reach (n + books_per_worker) ws

-- this number of tills more is open of a desk's grant books
abbrev pub with_tills : ℕ → Account → Account
with_tills k book = record book { open_tills = book.open_tills + k }

abbrev pub phase_with_tills : ℕ → PhaseAccounts → PhaseAccounts
phase_with_tills k books = record { grants = with_tills k books.grants; cost = with_tills k books.cost }

abbrev pub desk_with_tills : ℕ → ClientSide → ClientSide
desk_with_tills k d = record d {
  books = record { reservation = phase_with_tills k d.books.reservation; priority = phase_with_tills k d.books.priority };
}

-- new tills of each phase of a desk
abbrev pub new_phase_tills : PhaseAccounts → PhaseHoldings
new_phase_tills books = record { grants = new_till books.grants.number; cost = new_till books.cost.number }

abbrev pub new_unit : ClientSide → GrantHoldings
new_unit d = record { reservation = new_phase_tills d.books.reservation; priority = new_phase_tills d.books.priority }

-- the pass of a worker: it holds nothing
abbrev pub new_pass : ℕ → ℕ → List ClientId → List ClientSide → WorkerId → PassState
new_pass place n clients desks w = record {
  worker = w.0;
  place = place;
  tills = map_counts new_till (numbers_from n);
  clients = clients;
  units = map new_unit desks;
  granted = None;
}

-- the passes of the workers, in their order
abbrev pub new_passes : ℕ → ℕ → List ClientId → List ClientSide → List WorkerId → List PassState
new_passes place n clients desks [] = []
new_passes place n clients desks (w ∷ ws) = new_pass place n clients desks w ∷ new_passes (place + 1) (n + books_per_worker) clients desks ws

-- accounts of an empty history, whose number follows those of the workers' books; each desk has a till open for each worker beside
-- the held ones
abbrev pub new_accounts_state : {T : Type 0} → ℕ → ℕ → ℕ → List WorkerId → List ClientSide → AccountsState T
new_accounts_state server most n workers desks = record {
  server = server;
  number = n + books_per_worker * length workers;
  history = [];
  first = 0;
  most = most;
  room = 0;
  workers = new_workers (length desks) n workers;
  desks = map (desk_with_tills (length workers)) desks;
}

-- a book of such accounts, which is open
abbrev pub new_state : {T : Type 0} → Setting → ℕ → ℕ → ℕ → List WorkerId → List ClientSide → BookState T
new_state config server most n workers desks = state_of config (new_accounts_state server most n workers desks) false

-- What a call of a queue's book leaves as it was: a rotation, and every other call that a lock with a witness offers. `admit` and
-- `enrol` it does not offer.
use Rattle.std.specs.Prelude.{◌≡◌, ◌≤◌, ℕ, ◌+◌, List, ◌++◌, map}
use Rattle.dmc_tag.specs.declared.event.Event.{Event}
use Rattle.dmc_shared.specs.Later.{desk_numbers}
use Rattle.dmc_ledger.specs.Accounts.{Account}
use Rattle.dmc_book.specs.BookState.{BookState, WorkerSide}
use Rattle.dmc_book.specs.PerCount.{WorkerCounts, map_counts}

-- the worker, and the numbers of its books
abbrev pub worker_numbers : WorkerSide → ℕ × WorkerCounts ℕ
worker_numbers w = (w.worker, map_counts (λ (book : Account). book.number) w.books)

-- Every call but a rotation leaves the configuration, the server, the number of the history, how many events were released, how
-- many there may be until more are released, and the numbers of the workers and of the desks. The history only grows.
pub record IsLater {T : Type 0} (old new : BookState T) : Type 0 where
  pub config : new.config ≡ old.config
  pub server : new.server ≡ old.server
  pub number : new.number ≡ old.number
  pub first : new.first ≡ old.first
  pub most : new.most ≡ old.most
  pub workers : map worker_numbers new.workers ≡ map worker_numbers old.workers
  pub desks : map desk_numbers new.desks ≡ map desk_numbers old.desks
  pub rest : List (Event T)
  pub grown : new.history ≡ old.history ++ rest

-- A rotation leaves all but how many events were released, of which there are no fewer, and how many there may be until more are
-- released, which grows by as many.
pub record IsReleased {T : Type 0} (old new : BookState T) : Type 0 where
  pub config : new.config ≡ old.config
  pub server : new.server ≡ old.server
  pub number : new.number ≡ old.number
  pub first : old.first ≤ new.first
  pub most : new.most + old.first ≡ old.most + new.first
  pub workers : new.workers ≡ old.workers
  pub desks : new.desks ≡ old.desks
  pub history : new.history ≡ old.history
  pub closed : new.closed ≡ old.closed

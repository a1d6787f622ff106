-- What a server's book is made with, and keeps while the clients are registered.
use Rattle.std.specs.Prelude.{◌≡◌, ℕ, ◌+◌, ◌*◌, ◌<◌, ◌≤◌, List, [], length, map, Some, slice_get}
use Rattle.std.specs.List.{AllByRecursion}
use Rattle.dmc_types.specs.declared.ids.WorkerId.{WorkerId}
use Rattle.dmc_book.specs.BookState.{BookState, PassState, WorkerSide, pass_state}
use Rattle.dmc_book.specs.Moves.{IsEnrolled}
use Rattle.dmc_book.specs.Opening.{AreApart}
use Rattle.dmc_book.specs.PerCount.{books_per_worker}
use Rattle.dmc_book.specs.declared.pass.WorkerPass.{WorkerPass}
use Rattle.dmc_scene.specs.SceneValue.{SceneValue}
use Rattle.dmc_driver_threads.specs.LimitsValue.{LimitsValue}
use Rattle.dmc_driver_threads.specs.internal.Desks.{ids_of}

-- how many workers a server enrols: those of the clients, and its own
abbrev pub enrolled : SceneValue → ℕ
enrolled scene = length scene.clients + scene.workers

-- how many books a server's book opens: those of each worker, and that of its history
abbrev pub books_of_server : SceneValue → ℕ
books_of_server scene = books_per_worker * enrolled scene + 1

-- workers of different numbers, all of them below this one
pub record AreNumbered (next : ℕ) (workers : List WorkerId) : Type 0 where
  pub apart : AreApart (λ (w : WorkerId). w.0) workers
  pub below : AllByRecursion (λ (w : WorkerId). w.0 < next) workers

-- the book of a scene, with a desk for each client in their order, and an empty history that has room for their registrations
pub record IsNewBook {T : Type 0} (scene : SceneValue) (limits : LimitsValue) (book : BookState T) : Type 0 where
  pub config : book.config ≡ scene.config
  pub first : book.first ≡ 0
  pub most : book.most ≡ limits.events
  pub history : book.history ≡ []
  pub desks : map (λ d. d.client) book.desks ≡ ids_of scene.clients
  pub room : length scene.clients ≤ book.most

-- the first of these passes is of a worker that is enrolled
abbrev pub IsFirstEnrolled : {S : Type 0} → List WorkerSide → List (WorkerPass S) → Type 0
IsFirstEnrolled {S} workers passes = (p : PassState) → slice_get (map (pass_state {S = S}) passes) 0 ≡ Some p → IsEnrolled workers p

-- the configuration, how many events were released, how many there may be, and the clients that have a desk
pub record IsSetAsBefore {T : Type 0} (old new : BookState T) : Type 0 where
  pub config : new.config ≡ old.config
  pub first : new.first ≡ old.first
  pub most : new.most ≡ old.most
  pub desks : map (λ d. d.client) new.desks ≡ map (λ d. d.client) old.desks

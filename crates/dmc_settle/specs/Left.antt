-- What a cluster's threads left, and when its parts are those of one cluster.
use Rattle.std.specs.Prelude.{◌≡◌, ℕ, List, Option, Some, length, map, slice_get}
use Rattle.dmc_ledger.specs.Accounts.{Account, Holding}
use Rattle.dmc_ledger.specs.Bundles.{ClientSide, ServerSide, StampHoldings, PhaseHoldings, PhaseAccounts}
use Rattle.dmc_tlock.specs.BookState as tracker_book
use Rattle.dmc_tlock.specs.Settling as tracker_settling
use Rattle.dmc_book.specs.BookState.{BookState, PassState, pass_state}
use Rattle.dmc_book.specs.Settling as book_settling
use Rattle.dmc_scene.specs.SceneValue.{SceneValue, ClientValue}
use Rattle.dmc_settle.specs.declared.report.StopCause.{StopCause}
use Rattle.dmc_settle.specs.declared.report.ClusterReport.{ClusterReport}
use Rattle.dmc_settle.specs.declared.settle.Passes.{Passes}

-- why the worker of each client stopped, if it did; how many services failed for each client; and why the workers of each
-- server stopped, those that did
pub record Stops : Type 0 where
  pub clients : List (Option StopCause)
  pub failed : List ℕ
  pub servers : List (List StopCause)

-- What a cluster's threads left: the book of each server and the passes of the workers there, the tracker book of each client
-- with the client's pass, and the stops.
pub record Left (T : Type 0) : Type 0 where
  pub books : List (BookState T)
  pub worker_passes : List (List PassState)
  pub trackers : List tracker_book.BookState
  pub client_passes : List (List StampHoldings)
  pub stops : Stops

-- the till is of the book
abbrev pub IsTillOf : Holding → Account → Type 0
IsTillOf till book = till.number ≡ book.number

-- both tills of a phase are of its books
pub record ArePhaseTillsOf (tills : PhaseHoldings) (books : PhaseAccounts) : Type 0 where
  pub grants : IsTillOf tills.grants books.grants
  pub cost : IsTillOf tills.cost books.cost

-- the queue's desk of a client and the tracker's desk of a server hold tills of each other's books
pub record ArePaired (queue : ClientSide) (tracker : ServerSide) : Type 0 where
  pub stamps : IsTillOf queue.held.stamps tracker.books.stamps
  pub delta : IsTillOf queue.held.delta tracker.books.delta
  pub rho : IsTillOf queue.held.rho tracker.books.rho
  pub reservation : ArePhaseTillsOf tracker.held.reservation queue.books.reservation
  pub priority : ArePhaseTillsOf tracker.held.priority queue.books.priority

-- a server's book, which released no event: as the scene sets it up, with a desk for each client in the scene's order; and the
-- passes are its own
pub record IsServerPart {T : Type 0} (scene : SceneValue) (server : ℕ) (book : BookState T) (passes : List PassState) : Type 0 where
  pub config : book.config ≡ scene.config
  pub its_server : book.server ≡ server
  pub desks : map (λ d. d.client) book.desks ≡ map (λ c. c.id.0) scene.clients
  pub whole : book.first ≡ 0
  pub own : book_settling.AreOwn book.workers book.desks passes

-- a client's tracker book, which released no entry: in the scene's counting form, with a desk for each server; and the pass is
-- its own
pub record IsClientPart (scene : SceneValue) (client : ClientValue) (book : tracker_book.BookState) (pass : List StampHoldings) : Type 0 where
  pub counting : book.tracker.counting ≡ scene.counting
  pub its_client : book.client ≡ client.id.0
  pub desks : length book.desks ≡ scene.servers
  pub whole : book.first ≡ 0
  pub own : tracker_settling.IsOwn pass book.desks

-- The parts are those of one cluster, set up as the scene says: configurations, ids and the numbers of books agree.
pub record AreTogether {T : Type 0} (scene : SceneValue) (r : Left T) : Type 0 where
  pub books : length r.books ≡ scene.servers
  pub worker_passes : length r.worker_passes ≡ scene.servers
  pub trackers : length r.trackers ≡ length scene.clients
  pub client_passes : length r.client_passes ≡ length scene.clients
  pub servers : (s : ℕ) (book : BookState T) (passes : List PassState)
      → slice_get r.books s ≡ Some book → slice_get r.worker_passes s ≡ Some passes
      → IsServerPart scene s book passes
  pub clients : (c : ℕ) (client : ClientValue) (book : tracker_book.BookState) (pass : List StampHoldings)
      → slice_get scene.clients c ≡ Some client → slice_get r.trackers c ≡ Some book → slice_get r.client_passes c ≡ Some pass
      → IsClientPart scene client book pass
  pub pairs : (c s : ℕ) (queue : BookState T) (book : tracker_book.BookState) (d : ClientSide) (t : ServerSide)
      → slice_get r.books s ≡ Some queue → slice_get queue.desks c ≡ Some d
      → slice_get r.trackers c ≡ Some book → slice_get book.desks s ≡ Some t
      → ArePaired d t

-- ---- as plain data

-- the stops that a report names
abbrev pub stops_of : {T : Type 0} → ClusterReport T → Stops
stops_of r = record {
  clients = map (λ c. c.stop) r.clients.items;
  failed = map (λ c. c.failed) r.clients.items;
  servers = map (λ s. s.stops.items) r.servers.items;
}

-- these books, trackers, passes and stops
abbrev pub left_of : {T S : Type 0} → List (BookState T) → List tracker_book.BookState → Passes S → Stops → Left T
left_of books trackers passes stops = record {
  books = books;
  worker_passes = map (map pass_state) (map (λ v. v.items) passes.workers.items);
  trackers = trackers;
  client_passes = passes.clients.items;
  stops = stops;
}

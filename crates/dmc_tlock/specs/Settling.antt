-- A tracker book that is settled.
use Rattle.std.specs.Prelude.{◌≡◌, ℕ, ◌<◌, List, length}
use Rattle.dmc_types.specs.declared.ids.ServerId.{ServerId}
use Rattle.dmc_tracker.specs.declared.event.TrackerEvent.{TrackerEvent}
use Rattle.dmc_tracker.specs.TrackerList.{stamps, sent}
use Rattle.dmc_ledger.specs.Bundles.{ServerSide, StampHoldings, StampAccounts}
use Rattle.dmc_ledger.specs.Moves.{AreOf, AreWithin, books_after_gather}
use Rattle.dmc_tlock.specs.BookState.{desk_at, tills_at}
use Rattle.dmc_tlock.specs.Consistent.{IsBook, AreGrantTills}
use Rattle.dmc_tlock.specs.declared.settled.StampsHeld.{StampsHeld}

-- the pass has tills of each desk's stamp books, in the order of the servers
pub record IsOwn (pass : List StampHoldings) (desks : List ServerSide) : Type 0 where
  pub as_many : length pass ≡ length desks
  pub each : (s : ServerId) → s.0 < length desks → AreOf (tills_at pass s) (desk_at desks s).books

-- what tills hold
abbrev pub held_of : StampHoldings → StampsHeld
held_of tills = record { stamps = tills.stamps.amount; delta = tills.delta.amount; rho = tills.rho.amount }

-- a desk that gathered the pass's tills
abbrev pub side_after_gather : StampHoldings → ServerSide → ServerSide
side_after_gather tills desk = record desk { books = books_after_gather tills desk.books }

-- each desk gathered the pass's tills of its server, which held no more than its books
pub record AreGathered (pass : List StampHoldings) (desks settled : List ServerSide) : Type 0 where
  pub as_many : length settled ≡ length desks
  pub each : (s : ServerId) → s.0 < length desks
      → desk_at settled s ≡ side_after_gather (tills_at pass s) (desk_at desks s)
  pub within : (s : ServerId) → s.0 < length desks → AreWithin (tills_at pass s) (desk_at desks s).books

-- the stamp books of s still total what the list sent to s; what the pass held is gathered, and one till of each is open:
-- that of the queue's desk
pub record AreSettledBooks (events : List TrackerEvent) (s : ServerId) (tills : StampHoldings) (books : StampAccounts) : Type 0 where
  pub stamps : IsBook (stamps s events) tills.stamps.amount 1 books.stamps
  pub delta : IsBook (sent s events).delta tills.delta.amount 1 books.delta
  pub rho : IsBook (sent s events).rho tills.rho.amount 1 books.rho

-- the desk of s, which gathered these tills of the pass
pub record IsSettledDesk (client : ℕ) (events : List TrackerEvent) (s : ServerId) (tills : StampHoldings) (desk : ServerSide) : Type 0 where
  pub its_client : desk.client ≡ client
  pub its_server : desk.server ≡ s.0
  pub books : AreSettledBooks events s tills desk.books
  pub held : AreGrantTills events s desk.held

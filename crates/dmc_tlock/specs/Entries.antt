-- What a stamp, a skip and a response do to a tracker book.
use Rattle.std.specs.Prelude.{◌≡◌, ℕ, ◌<◌, List, [], ◌∷◌, ◌++◌, length, slice_set}
use Rattle.dmc_types.specs.Values.{Params}
use Rattle.dmc_types.specs.declared.ids.ServerId.{ServerId}
use Rattle.dmc_types.specs.declared.config.PhaseType.{PhaseType}
use Rattle.dmc_tracker.specs.declared.event.TrackerEvent.TheVariants.{Stamp, Skip, Response}
use Rattle.dmc_tracker.specs.Numbers.{next_params, after_stamp, after_skip, after_response}
use Rattle.dmc_ledger.specs.Bundles.{ServerSide, StampHoldings, PhaseHoldings, UnitValue}
use Rattle.dmc_ledger.specs.Moves.{books_after_stamp, tills_after_response, tills_in, AreOf, AreSamePhase}
use Rattle.dmc_tlock.specs.BookState.{BookState, desk_at}

-- a desk: its stamp books issue a stamp; its held tills take a unit of the phase
abbrev pub side_after_stamp : Params → ServerSide → ServerSide
side_after_stamp params desk = record desk { books = books_after_stamp params desk.books }

abbrev pub side_after_response : PhaseType → ℕ → ServerSide → ServerSide
side_after_response phase cost desk = record desk { held = tills_after_response phase cost desk.held }

-- the book: one entry more, in the tracker's numbers, in the list and at the desk of s; a skip sends nothing, and leaves the
-- desks
abbrev pub book_after_stamp : ServerId → ℕ → BookState → BookState
book_after_stamp s cost b = record b {
  tracker = after_stamp s cost b.tracker;
  events = b.events ++ Stamp s (next_params b.tracker s cost) ∷ [];
  desks = slice_set b.desks s.0 (side_after_stamp (next_params b.tracker s cost) (desk_at b.desks s));
}

abbrev pub book_after_skip : ServerId → BookState → BookState
book_after_skip s b = record b { tracker = after_skip s b.tracker; events = b.events ++ Skip s ∷ [] }

abbrev pub book_after_response : ServerId → PhaseType → ℕ → BookState → BookState
book_after_response s phase cost b = record b {
  tracker = after_response s phase cost b.tracker;
  events = b.events ++ Response s phase cost ∷ [];
  desks = slice_set b.desks s.0 (side_after_response phase cost (desk_at b.desks s));
}

-- the server of a unit
abbrev pub server_of : UnitValue → ServerId
server_of unit = record { 0 = unit.server }

abbrev pub book_after_unit : UnitValue → BookState → BookState
book_after_unit unit b = book_after_response (server_of unit) unit.phase unit.cost b

-- the book has s, and these tills are of the stamp books of s
pub record AreTillsOf (b : BookState) (s : ServerId) (tills : StampHoldings) : Type 0 where
  pub within : s.0 < length b.desks
  pub its : AreOf tills (desk_at b.desks s).books

-- the unit is of this client, and the tills are of the client's grants at its server in its phase
pub record IsUnitAt (client : ℕ) (desks : List ServerSide) (unit : UnitValue) (tills : PhaseHoldings) : Type 0 where
  pub its_client : unit.client ≡ client
  pub its_books : AreSamePhase tills (tills_in unit.phase (desk_at desks (server_of unit)).held)

-- the book has the unit's server, and it is such a unit
pub record IsUnitOf (b : BookState) (unit : UnitValue) (tills : PhaseHoldings) : Type 0 where
  pub within : unit.server < length b.desks
  pub its : IsUnitAt b.client b.desks unit tills

-- What the response to a grant does to a client's book.
use Rattle.std.specs.Prelude.{◌≡◌, ℕ, ◌<◌, slice_set, length}
use Rattle.dmc_types.specs.declared.config.PhaseType.{PhaseType}
use Rattle.dmc_ledger.specs.Bundles.{PhaseHoldings, UnitValue}
use Rattle.dmc_ledger.specs.Moves.{AreSamePhase, tills_after_response, tills_in}
use Rattle.dmc_sharded.specs.BookState.{BookState, DeskState, desk_at}

-- the desk holds one grant more of the phase
abbrev pub desk_after_response : PhaseType → ℕ → DeskState → DeskState
desk_after_response phase cost desk = record desk { side = record desk.side { held = tills_after_response phase cost desk.side.held } }

abbrev pub book_after_unit : UnitValue → BookState → BookState
book_after_unit unit b = record b {
  desks = slice_set b.desks unit.server (desk_after_response unit.phase unit.cost (desk_at b.desks unit.server));
}

-- the tills are of the client's grants at this desk in the unit's phase, and the unit is the client's
pub record IsUnitAt (client : ℕ) (desk : DeskState) (unit : UnitValue) (tills : PhaseHoldings) : Type 0 where
  pub its_client : unit.client ≡ client
  pub its_books : AreSamePhase tills (tills_in unit.phase desk.side.held)

-- the book has the unit's shard, and it is such a unit
pub record IsUnitOf (b : BookState) (unit : UnitValue) (tills : PhaseHoldings) : Type 0 where
  pub within : unit.server < length b.desks
  pub its : IsUnitAt b.client (desk_at b.desks unit.server) unit tills

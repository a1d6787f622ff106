-- Room that is made for a pass.
use Rattle.std.specs.Prelude.{◌≡◌, ℕ, ◌≤◌, List, [], length, vec_capacity}
use Rattle.std.specs.List.{AllByRecursion}
use Rattle.std.specs.Arc.{arc_value}
use Rattle.dmc_types.specs.declared.ids.ClientId.{ClientId}
use Rattle.dmc_book.specs.declared.opening.PassRoom.{PassRoom}
use Rattle.dmc_book.specs.declared.opening.Room.{Room}

-- the names of the clients, no till yet, and room for one of each phase for each client
pub record IsRoom {S : Type 0} (clients : List ClientId) (room : PassRoom S) : Type 0 where
  pub named : (arc_value room.clients).keys ≡ clients
  pub empty : room.units.items ≡ []
  pub fits : length clients ≤ vec_capacity room.units

-- room for this number of workers, and for their passes
pub record IsRoomFor {S : Type 0} (workers : ℕ) (clients : List ClientId) (r : Room S) : Type 0 where
  pub rooms : AllByRecursion (IsRoom clients) r.rooms.items
  pub as_many : length r.rooms.items ≡ workers
  pub no_seat : r.seats.items ≡ []
  pub seats_fit : workers ≤ vec_capacity r.seats
  pub no_pass : r.passes.items ≡ []
  pub passes_fit : workers ≤ vec_capacity r.passes

use Rattle.std.proofs.Common.{◌≡◌, length, map}
use Rattle.std.specs.List.{AllByRecursion}
use Rattle.dmc_book.specs.internal.Rooms.{IsRoom}
use Rattle.dmc_book.proofs.opening.rooms_for.Given as goal

abbrev pub invariant-loop : goal.invariant-loop
invariant-loop g l = record {
  rooms : AllByRecursion (IsRoom (map (λ d. d.client) l.fn.desks)) l.rooms.items;
  as_many : length l.rooms.items ≡ l.counter;
}

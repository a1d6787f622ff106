use Rattle.std.proofs.Common.{◌≡◌, ◌+◌, ◌*◌, ◌≤◌, length, map, take}
use Rattle.std.specs.Prelude.{vec_capacity}
use Rattle.std.specs.List.{AllByRecursion}
use Rattle.dmc_ledger.specs.Bundles.{client_side}
use Rattle.dmc_book.specs.BookState.{pass_state, worker_side}
use Rattle.dmc_book.specs.Opening.{desk_with_tills, new_passes, new_workers}
use Rattle.dmc_book.specs.PerCount.{books_per_worker}
use Rattle.dmc_book.specs.internal.Rooms.{IsRoom}
use Rattle.dmc_book.proofs.opening.open_workers.Given as goal

abbrev pub invariant-loop-place : goal.invariant-loop-place
invariant-loop-place g l = record {
  rooms : AllByRecursion (IsRoom (map (λ d. d.client) l.fn.desks)) l.rooms.items;
  rooms_left : length l.rooms.items + l.place ≡ length l.fn.workers;
  seats_room : length l.fn.workers ≤ vec_capacity l.seats;
  passes_room : length l.fn.workers ≤ vec_capacity l.passes;
  a_seat_each : length l.seats.items ≡ l.place;
  a_pass_each : length l.passes.items ≡ l.place;
  seats : map worker_side l.seats.items ≡ new_workers (length (map client_side l.fn.desks)) l.fn.mint.opened (take l.place l.fn.workers);
  passes : map pass_state l.passes.items ≡ new_passes 0 l.fn.mint.opened (map (λ d. d.client) l.fn.desks) (map client_side l.fn.desks) (take l.place l.fn.workers);
  desks : map client_side l.desks ≡ map (desk_with_tills l.place) (map client_side l.fn.desks);
  opened : l.mint.opened ≡ l.fn.mint.opened + books_per_worker * l.place;
  left : l.mint.left + books_per_worker * l.place ≡ l.fn.mint.left;
}

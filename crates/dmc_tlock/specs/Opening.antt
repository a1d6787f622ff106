-- A tracker book that is made.
use Rattle.std.specs.Prelude.{◌≡◌, ℕ, ◌<◌, ◌≤◌, List, [], None, length, map, slice_index_or}
use Rattle.dmc_types.specs.Limits as limits
use Rattle.dmc_types.specs.declared.ids.ServerId.{ServerId}
use Rattle.dmc_types.specs.declared.config.Counting.{Counting}
use Rattle.dmc_tracker.specs.Numbers.{AreLimits, new_numbers}
use Rattle.dmc_ledger.specs.Bundles.{ServerSide, StampHoldings, new_server_side}
use Rattle.dmc_ledger.specs.Moves.{books_after_opening, new_tills}
use Rattle.dmc_tlock.specs.BookState.{BookState, desk_at, no_side}

-- the desks are a client's for the servers 0, 1, .., as `open_pair` gave them
abbrev pub AreNew : ℕ → List ServerSide → Type 0
AreNew client desks = (s : ServerId) → s.0 < length desks → ((n : ℕ) × (desk_at desks s ≡ new_server_side client s.0 n))

-- the limits of a tracker and of a history
pub record AreBookLimits (servers most max_events : ℕ) : Type 0 where
  pub tracker : AreLimits servers most
  pub some_events : 0 < max_events
  pub events_limit : max_events ≤ limits.max_events

-- the client's pass opens a till of each stamp book of a desk, whose list is taken
abbrev pub side_after_opening : ServerSide → ServerSide
side_after_opening desk = record desk { books = books_after_opening desk.books; list = None }

abbrev pub new_pass : List ServerSide → List StampHoldings
new_pass desks = map (λ desk. new_tills desk.books) desks

-- the number of the first desk's list, which is that of its book of stamps
abbrev pub list_number : List ServerSide → ℕ
list_number desks = (slice_index_or desks 0 no_side).books.stamps.number

-- a book of an empty list, with a server for each desk; its list is that of the first
abbrev pub new_book_state : ℕ → Counting → ℕ → ℕ → List ServerSide → BookState
new_book_state client counting most max_events desks = record {
  client = client;
  tracker = new_numbers counting most (length desks);
  number = list_number desks;
  events = [];
  first = 0;
  max_events = max_events;
  desks = map side_after_opening desks;
}

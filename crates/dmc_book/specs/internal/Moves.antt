-- The accounts after an event.
use Rattle.std.specs.Prelude.{◌-◌, [], ◌∷◌, ◌++◌, map}
use Rattle.dmc_tag.specs.declared.event.Event.{Event}
use Rattle.dmc_book.specs.BookState.{AccountsState}
use Rattle.dmc_book.specs.Moves.{desk_after, worker_after}

-- the accounts, with the event recorded in a reserved place
abbrev pub accounts_after : {T : Type 0} → Event T → AccountsState T → AccountsState T
accounts_after e a = record a {
  history = a.history ++ e ∷ [];
  room = a.room - 1;
  workers = map (worker_after e) a.workers;
  desks = map (desk_after e) a.desks;
}

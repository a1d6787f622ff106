-- The clients that the entries of a roster represent in a plain state.
use Rattle.std.specs.Prelude.{List, map}
use Rattle.dmc_tag.specs.State.{PlainClient}
use Rattle.dmc_client.specs.Record.{client_of}
use Rattle.dmc_roster.specs.Entries.{Entry}

abbrev pub clients_in : {T : Type 0} → List (Entry T) → List (PlainClient T)
clients_in entries = map (λ e. client_of e.id e.rec) entries

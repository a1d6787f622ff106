-- Servers and clients by their places.
use Rattle.std.specs.Prelude.{ℕ, false, List, [], map, slice_index_or}
use Rattle.std.specs.Global.{Vec}
use Rattle.dmc_types.specs.Values.{Setting, no_counts}
use Rattle.dmc_types.specs.declared.config.AtLimit.TheVariants.{Wait}
use Rattle.dmc_types.specs.declared.config.Shares.TheVariants.{Clock}
use Rattle.dmc_types.specs.declared.config.Counting.TheVariants.{All}
use Rattle.dmc_ledger.specs.Bundles.{ClientSide, client_side}
use Rattle.dmc_ledger.specs.declared.desk.ClientDesk.{ClientDesk}
use Rattle.dmc_tlock.specs.BookState as tracker_book
use Rattle.dmc_tlock.specs.declared.settled.StampsHeld.{StampsHeld}
use Rattle.dmc_book.specs.BookState.{BookState, PassState, no_desk, pass_state}
use Rattle.dmc_book.specs.declared.pass.WorkerPass.{WorkerPass}

-- the default of a place without a book
abbrev pub no_setting : Setting
no_setting = record { hz = 0; idle_age = 0; erase_age = 0; at_limit = Wait; shares = Clock }

abbrev pub no_book : {T : Type 0} → BookState T
no_book = record { config = no_setting; server = 0; number = 0; history = []; first = 0; most = 0; workers = []; desks = []; closed = false }

abbrev pub no_tracker : tracker_book.BookState
no_tracker = record {
  client = 0;
  tracker = record { counting = All; most = 0; completions = no_counts; servers = [] };
  number = 0;
  events = [];
  first = 0;
  max_events = 0;
  desks = [];
}

abbrev pub no_held : StampsHeld
no_held = record { stamps = 0; delta = 0; rho = 0 }

-- the passes of each server, and the desks of each server, as plain data
module _ {S : Type 0} where
  abbrev pub pass_states : Vec (WorkerPass S) → List PassState
  pass_states passes = map pass_state passes.items

  abbrev pub sides : Vec (ClientDesk S) → List ClientSide
  sides desks = map client_side desks.items

-- the desk of a client at a server, of the desks of each server
abbrev pub desk_of : List (List ClientSide) → ℕ → ℕ → ClientSide
desk_of desks s c = slice_index_or (slice_index_or desks s []) c no_desk

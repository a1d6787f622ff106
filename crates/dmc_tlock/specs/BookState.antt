-- What contracts see of a tracker book, and of a book behind its lock.
use Rattle.std.specs.Prelude.{ℕ, ◌-◌, List, None, slice_index_or}
use Rattle.dmc_types.specs.declared.ids.ServerId.{ServerId}
use Rattle.dmc_tracker.specs.declared.event.TrackerEvent.{TrackerEvent}
use Rattle.dmc_tracker.specs.Numbers.{Numbers}
use Rattle.dmc_ledger.specs.Accounts.{no_account, no_holding}
use Rattle.dmc_ledger.specs.Bundles.{ServerSide, StampHoldings, PhaseHoldings}
use Rattle.dmc_shared.specs.Segmented.{Segmented}

-- the client, the numbers of its tracker, the number of its list in the set-up, the list of its stamps, skips and responses, how many of them were released, how many
-- may be kept, and the desk of each server
pub record BookState : Type 0 where
  pub client : ℕ
  pub tracker : Numbers
  pub number : ℕ
  pub events : List TrackerEvent
  pub first : ℕ
  pub max_events : ℕ
  pub desks : List ServerSide

-- the state of a book of these parts
abbrev pub state_of : ℕ → Numbers → Segmented TrackerEvent → List ServerSide → BookState
state_of client tracker list desks = record {
  client = client;
  tracker = tracker;
  number = list.number;
  events = list.events;
  first = list.first;
  max_events = list.most - list.first;
  desks = desks;
}

-- a lock: whose book it is for
pub record LockValue : Type 0 where
  pub client : ℕ

-- the defaults of a place without tills or a desk
abbrev pub no_grants : PhaseHoldings
no_grants = record { grants = no_holding; cost = no_holding }

abbrev pub no_tills : StampHoldings
no_tills = record { stamps = no_holding; delta = no_holding; rho = no_holding }

abbrev pub no_side : ServerSide
no_side = record {
  client = 0;
  server = 0;
  books = record { stamps = no_account; delta = no_account; rho = no_account };
  held = record { reservation = no_grants; priority = no_grants };
  list = None;
}

-- the desk of s, and a pass's tills for s
abbrev pub desk_at : List ServerSide → ServerId → ServerSide
desk_at desks s = slice_index_or desks s.0 no_side

abbrev pub tills_at : List StampHoldings → ServerId → StampHoldings
tills_at pass s = slice_index_or pass s.0 no_tills

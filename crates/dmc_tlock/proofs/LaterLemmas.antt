-- What each call leaves as it was.
use Rattle.std.proofs.Common.{ℕ, ◌≤◌, length, refl, arith}
use Rattle.dmc_types.specs.declared.ids.ServerId.{ServerId}
use Rattle.dmc_types.specs.declared.config.PhaseType.{PhaseType}
use Rattle.dmc_types.specs.declared.config.PhaseType.TheVariants.{Reservation, Priority}
use Rattle.dmc_ledger.specs.Bundles.{UnitValue}
use Rattle.dmc_shared.specs.Later.{side_numbers}
use Rattle.dmc_shared.proofs.LaterLemmas.{seen_set}
use Rattle.dmc_tlock.specs.BookState.{BookState, no_side}
use Rattle.dmc_tlock.specs.Entries.{server_of, book_after_response, book_after_skip, book_after_stamp, book_after_unit}
use Rattle.dmc_tlock.specs.Segments.{after_rotating}
use Rattle.dmc_tlock.specs.Later.{IsLater, IsReleased}

pub later_same : (b : BookState) → IsLater b b
later_same b = record { client = refl; number = refl; counting = refl; most = refl; first = refl; max_events = refl; desks = refl }

pub later_stamp : (s : ServerId) (cost : ℕ) (b : BookState) → IsLater b (book_after_stamp s cost b)
later_stamp s cost b = record {
  client = refl;
  number = refl;
  counting = refl;
  most = refl;
  first = refl;
  max_events = refl;
  desks = seen_set side_numbers b.desks s.0 _ no_side refl;
}

pub later_skip : (s : ServerId) (b : BookState) → IsLater b (book_after_skip s b)
later_skip s b = record { client = refl; number = refl; counting = refl; most = refl; first = refl; max_events = refl; desks = refl }

later_response : (s : ServerId) (phase : PhaseType) (cost : ℕ) (b : BookState) → IsLater b (book_after_response s phase cost b)
later_response s Reservation cost b = record {
  client = refl;
  number = refl;
  counting = refl;
  most = refl;
  first = refl;
  max_events = refl;
  desks = seen_set side_numbers b.desks s.0 _ no_side refl;
}
later_response s Priority cost b = record {
  client = refl;
  number = refl;
  counting = refl;
  most = refl;
  first = refl;
  max_events = refl;
  desks = seen_set side_numbers b.desks s.0 _ no_side refl;
}

pub later_unit : (unit : UnitValue) (b : BookState) → IsLater b (book_after_unit unit b)
later_unit unit b = later_response (server_of unit) unit.phase unit.cost b

pub released_same : (b : BookState) → IsReleased b b
released_same b = record { client = refl; number = refl; tracker = refl; events = refl; first = omega arith; max_events = refl; desks = refl }

pub released_rotated : (b : BookState) → b.first ≤ length b.events → IsReleased b (after_rotating b)
released_rotated b within = record { client = refl; number = refl; tracker = refl; events = refl; first = within; max_events = refl; desks = refl }

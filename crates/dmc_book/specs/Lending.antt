-- What a pass lends, and what it is once that came back.
use Rattle.std.specs.Prelude.{ℕ, ◌==◌, Option, Some, None, slice_get}
use Rattle.std.specs.Arc.{arc_value}
use Rattle.std.specs.List.{position}
use Rattle.std.specs.Option.{option_map, option_and_then}
use Rattle.std.specs.Vec.{with_item}
use Rattle.dmc_types.specs.declared.ids.ClientId.{ClientId}
use Rattle.dmc_types.specs.declared.config.PhaseType.{PhaseType}
use Rattle.dmc_types.specs.declared.config.PhaseType.TheVariants.{Reservation, Priority}
use Rattle.dmc_ledger.specs.Bundles.{PhaseHoldings}
use Rattle.dmc_ledger.specs.Moves.{tills_in}
use Rattle.dmc_ledger.specs.declared.bundle.PhaseTills.{PhaseTills}
use Rattle.dmc_ledger.specs.declared.bundle.GrantTills.{GrantTills}
use Rattle.dmc_book.specs.BookState.{PassState}
use Rattle.dmc_book.specs.declared.pass.WorkerPass.{WorkerPass}

-- the tills of a client's grants in a phase
abbrev pub tills_for : PassState → ClientId → PhaseType → Option PhaseHoldings
tills_for p client phase = option_map (tills_in phase) (option_and_then (slice_get p.units) (position (λ k. client.0 == k.0) p.clients))

module _ {S : Type 0} where
  -- the tills of a client, with those of the phase given back as `tills`
  abbrev pub with_tills : PhaseType → PhaseTills S → GrantTills S → GrantTills S
  with_tills Reservation tills unit = record unit { reservation = tills }
  with_tills Priority tills unit = record unit { priority = tills }

  -- the pass, with a client's tills given back as `unit`
  abbrev pub with_unit : WorkerPass S → ℕ → GrantTills S → WorkerPass S
  with_unit p place unit = record p { units = with_item p.units place unit }

  abbrev pub unit_given_back : WorkerPass S → PhaseType → PhaseTills S → ℕ → Option (GrantTills S) → WorkerPass S
  unit_given_back p phase tills place None = p
  unit_given_back p phase tills place (Some unit) = with_unit p place (with_tills phase tills unit)

  abbrev pub given_back_at : WorkerPass S → PhaseType → PhaseTills S → Option ℕ → WorkerPass S
  given_back_at p phase tills None = p
  given_back_at p phase tills (Some place) = unit_given_back p phase tills place (slice_get p.units.items place)

  -- the pass, with the client's tills of the phase given back as `tills`, and all else as it was
  abbrev pub given_back : WorkerPass S → ClientId → PhaseType → PhaseTills S → WorkerPass S
  given_back p client phase tills = given_back_at p phase tills (position (λ k. client.0 == k.0) (arc_value p.clients).keys)

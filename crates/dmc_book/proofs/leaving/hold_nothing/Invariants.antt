use Rattle.std.proofs.Common.{map, take}
use Rattle.std.specs.List.{AllByRecursion}
use Rattle.dmc_ledger.specs.Bundles.{grant_holdings}
use Rattle.dmc_book.specs.Leaving.{HoldsNothing}
use Rattle.dmc_book.proofs.leaving.hold_nothing.Given as goal

abbrev pub invariant-loop-unit : goal.invariant-loop-unit
invariant-loop-unit g l = AllByRecursion HoldsNothing (map grant_holdings (take l.unit-index l.units))

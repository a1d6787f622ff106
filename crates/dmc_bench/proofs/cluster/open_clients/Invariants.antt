use Rattle.std.proofs.Common.{map}
use Rattle.std.specs.List.{AllByRecursion}
use Rattle.dmc_book.specs.Opening.{IsNewDesk}
use Rattle.dmc_ledger.specs.Bundles.{client_side}
use Rattle.dmc_bench.proofs.cluster.open_clients.Given as goal

abbrev pub invariant-loop-id : goal.invariant-loop-id
invariant-loop-id g l = AllByRecursion (IsNewDesk 0) (map client_side l.desks.items)

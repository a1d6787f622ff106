use Rattle.std.proofs.Common.{◌≡◌, ◌*◌, map, take}
use Rattle.dmc_ledger.specs.Bundles.{client_side}
use Rattle.dmc_settle.specs.internal.Filled.{AreWithin, granted_at}
use Rattle.dmc_settle.proofs.servers.sum_grants.Given as goal

abbrev pub invariant-loop-desk : goal.invariant-loop-desk
invariant-loop-desk g l = record {
  sums : l.granted ≡ granted_at (map client_side (take l.desk-index l.desks));
  fits : AreWithin (l.desk-index * 1073741824) l.granted;
}

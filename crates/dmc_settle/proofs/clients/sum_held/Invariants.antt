use Rattle.std.proofs.Common.{◌≡◌, take}
use Rattle.dmc_settle.specs.internal.Filled.{all_held}
use Rattle.dmc_settle.proofs.Holding.{AreSumsOf}
use Rattle.dmc_settle.proofs.clients.sum_held.Given as goal

abbrev pub invariant-loop-left : goal.invariant-loop-left
invariant-loop-left l = record {
  sums : l.sum ≡ all_held (take l.left-index l.held);
  fits : AreSumsOf l.left-index l.sum;
}

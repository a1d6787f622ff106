use Rattle.std.proofs.Common.{◌≡◌}
use Rattle.dmc_tests_base.proofs.ledgers.add_each.Given as goal

abbrev pub invariant-loop : goal.invariant-loop
invariant-loop g l = l.till.number ≡ 0

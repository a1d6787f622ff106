use Rattle.std.proofs.Common.{◌≡◌, map}
use Rattle.std.specs.List.{range_with_len}
use Rattle.dmc_sim.specs.internal.Rows.{idle_row}
use Rattle.dmc_sim.proofs.rows.idle_servers.Given as goal

abbrev pub invariant-loop-server : goal.invariant-loop-server
invariant-loop-server l = l.rows.items ≡ map idle_row (range_with_len 0 l.server)

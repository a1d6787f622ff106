-- The rows so far have what is left.
use Rattle.std.proofs.Common.{◌≡◌, ◌++◌, drop, map, take}
use Rattle.dmc_pull.specs.Queue.{state_of}
use Rattle.dmc_sim.specs.internal.Rows.{with_left}
use Rattle.dmc_sim.proofs.rows.count_left.Given as goal

abbrev pub invariant-loop-row : goal.invariant-loop-row
invariant-loop-row g l = l.servers ≡ map (with_left state_of l.core.servers) (take l.row-index l.fn.servers) ++ drop l.row-index l.fn.servers

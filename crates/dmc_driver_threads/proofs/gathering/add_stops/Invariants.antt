use Rattle.std.proofs.Common.{◌≡◌, map}
use Rattle.dmc_driver_threads.proofs.gathering.add_stops.Given as goal

abbrev pub invariant-loop-server : goal.invariant-loop-server
invariant-loop-server g l = map (λ r. r.server) l.rows ≡ map (λ r. r.server) l.fn.rows

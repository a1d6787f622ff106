use Rattle.std.proofs.Common.{◌≡◌, map}
use Rattle.dmc_driver_threads.proofs.gathering.gather_clients.Given as goal

abbrev pub invariant-loop-job : goal.invariant-loop-job
invariant-loop-job g l = map (λ r. r.client) l.rows ≡ map (λ r. r.client) l.fn.rows

use Rattle.std.proofs.Common.{◌≡◌, map}
use Rattle.dmc_driver_threads.proofs.gathering.add_failures.Given as goal

abbrev pub invariant-loop-place : goal.invariant-loop-place
invariant-loop-place l = map (λ r. r.client) l.rows ≡ map (λ r. r.client) l.fn.rows

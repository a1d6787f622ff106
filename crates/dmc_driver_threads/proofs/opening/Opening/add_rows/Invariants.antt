use Rattle.std.proofs.Common.{◌≡◌, map, take}
use Rattle.dmc_driver_threads.proofs.opening.Opening.add_rows.Given as goal

abbrev pub invariant-loop-client : goal.invariant-loop-client
invariant-loop-client l = map (λ r. r.client) l.rows.items ≡ map (λ c. c.id) (take l.client-index l.self.scene.now.clients)

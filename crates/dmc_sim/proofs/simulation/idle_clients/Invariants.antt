use Rattle.std.proofs.Common.{◌≡◌, map, take}
use Rattle.std.specs.Prelude.{All}
use Rattle.dmc_sim.specs.internal.Turns.{IsIdle}
use Rattle.dmc_sim.proofs.simulation.idle_clients.Given as goal

abbrev pub invariant-loop-client : goal.invariant-loop-client
invariant-loop-client l = record {
  scenes : map (λ c. c.scene) l.clients.items ≡ take l.client-index l.scene.clients;
  idle : All (IsIdle l.scene) l.clients.items;
}

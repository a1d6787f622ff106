use Rattle.std.proofs.Common.{◌≡◌, map, take}
use Rattle.dmc_core.specs.internal.Opening.{opening_client}
use Rattle.dmc_core.proofs.opening.open_clients.Given as goal

abbrev pub invariant-loop-client : goal.invariant-loop-client
invariant-loop-client l = l.clients.items ≡ map (opening_client l.fn.scene.counting l.fn.scene.servers) (take l.client-index l.fn.scene.clients)

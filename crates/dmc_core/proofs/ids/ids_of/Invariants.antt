use Rattle.std.proofs.Common.{◌≡◌, map, take}
use Rattle.dmc_scene.specs.SceneValue.{ClientValue}
use Rattle.dmc_core.proofs.ids.ids_of.Given as goal

abbrev pub invariant-loop-client : goal.invariant-loop-client
invariant-loop-client l = l.ids.keys ≡ map (λ (c : ClientValue). c.id) (take l.client-index l.clients)

-- Answered here, so that a wrong body fails here.
use Rattle.std.proofs.Common.{rules}
use Rattle.dmc_scene.proofs.client.SceneClient.has_costs.Goals as goal

pub returns : goal.returns
returns c = search rules

-- Answered here, so that a wrong body fails here.
use Rattle.std.proofs.Common.{rules}
use Rattle.dmc_scene.proofs.scene.Scene.clients.Goals as goal

pub returns-clause-value : goal.returns-clause-value
returns-clause-value g = search rules

pub returns-clause-spaced : goal.returns-clause-spaced
returns-clause-spaced g c = search rules

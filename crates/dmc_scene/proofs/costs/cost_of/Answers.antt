-- Answered here, so that a wrong body fails here.
use Rattle.std.proofs.Common.{rules}
use Rattle.dmc_scene.proofs.costs.cost_of.Goals as goal

pub returns-clause-value : goal.returns-clause-value
returns-clause-value c = search rules

-- Answered here, so that a wrong body fails here.
use Rattle.std.proofs.Common.{rules}
use Rattle.dmc_scene.proofs.client.id_of.Goals as goal

pub returns-else-has_id-clause-value : goal.returns-else-has_id-clause-value
returns-else-has_id-clause-value g = search rules

pub returns-else-has_id-clause-fresh : goal.returns-else-has_id-clause-fresh
returns-else-has_id-clause-fresh g c = search rules

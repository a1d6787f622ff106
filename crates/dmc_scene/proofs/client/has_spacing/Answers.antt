-- Answered here, so that a wrong body fails here.
use Rattle.std.proofs.Common.{rules}
use Rattle.dmc_scene.proofs.client.has_spacing.Goals as goal

pub returns-in-Tick : goal.returns-in-Tick
returns-in-Tick g = search rules

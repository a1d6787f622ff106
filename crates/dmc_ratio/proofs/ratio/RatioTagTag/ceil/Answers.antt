-- Answered here, so that a wrong body fails here.
use Rattle.std.proofs.Common.{rules}
use Rattle.dmc_ratio.proofs.ratio.RatioTagTag.ceil.Goals as goal

pub returns-else-numer-lt0 : goal.returns-else-numer-lt0
returns-else-numer-lt0 c = search rules
